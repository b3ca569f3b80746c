use Rattle.std.proofs.Common.{ap}
use Rattle.script_core.specs.Keeping.{definitions_in}
use Rattle.script_core.proofs.KeptDefinitions.{all_unused}
use Rattle.script_core.proofs.keeping.keep_own.Goals as goal

pub keep_all-requires : goal.keep_all-requires
keep_all-requires c = all_unused c.args.script.now c.args.command.now _ c.from_ref.result.now c.requires (ap definitions_in c.in-DefineFun.is) c.from_ref.ensures.value

pub keep_all-requires-in-DefineFunRec : goal.keep_all-requires-in-DefineFunRec
keep_all-requires-in-DefineFunRec c = all_unused c.args.script.now c.args.command.now _ c.from_ref-in-DefineFunRec.result.now c.requires (ap definitions_in c.in-DefineFunRec.is) c.from_ref-in-DefineFunRec.ensures.value

pub keep_all-requires-in-DefineFunsRec : goal.keep_all-requires-in-DefineFunsRec
keep_all-requires-in-DefineFunsRec c = all_unused c.args.script.now c.args.command.now _ c.as_slice.result.now c.requires (ap definitions_in c.in-DefineFunsRec.is) c.as_slice.ensures
