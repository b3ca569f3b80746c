use Rattle.std.proofs.Common.{map, rules}
use Rattle.term_store.specs.Command.{plain_command}
use Rattle.logic_frag.specs.Following.{context_in}
use Rattle.logic_frag.specs.TermRules.{Breaks}
use Rattle.logic_frag.specs.SeenTerms.{occurrence}
use Rattle.logic_frag.proofs.Walking.{command_answer}
use Rattle.logic_frag.proofs.broken.has_broken.Goals as goal

pub returns : goal.returns
returns c = command_answer (Breaks c.args.rule (context_in c.args.known.now)) (plain_command c.args.command.now) (map occurrence c.push_roots.new.list.items) c.any_broken.result (search rules) c.any_broken.ensures
