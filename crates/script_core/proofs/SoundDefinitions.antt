-- The definitions of sound commands apply lower functions, where they are not recursive.
use Rattle.std.proofs.Common.{◌≡◌, false, List, [], ◌∷◌, sym, subst}
use Rattle.logic_frag.specs.Following.{AppliesLower, plain_defs}
use Rattle.term_store.specs.Command.{PlainCommand, PlainDef}
use Rattle.term_store.specs.Declarations.{Declaration, constructor_of, datatype, declared_in, definition, function_symbol, selector_of, sort_symbol, term_name}
use Rattle.term_store.specs.Script.{Kept, commands_of}
use Rattle.term_store.specs.SoundScript.{AreSoundCommands, IsSound, IsSoundDeclaration}
use Rattle.term_store.specs.SoundTerms.{AppliesBelow}
use Rattle.typer.proofs.LiveDeclarations.{Each, all_of_each, each_of_all}
use Rattle.script_core.specs.Keeping.{KeepsDefined, defined_in}

abbrev IsLower : PlainDef → Type 0
IsLower d = d.recursive ≡ false → AppliesBelow d.no.0 d.body

defined_lower : (script ds : List Declaration) → Each (IsSoundDeclaration script) ds → Each IsLower (defined_in ds)
defined_lower script [] h = tt
defined_lower script (definition d ∷ ds) h = (h.0.lower, defined_lower script ds h.1)
defined_lower script (term_name d n t ∷ ds) h = (h.0.lower, defined_lower script ds h.1)
defined_lower script (sort_symbol d n a ∷ ds) h = defined_lower script ds h.1
defined_lower script (function_symbol d n args r ∷ ds) h = defined_lower script ds h.1
defined_lower script (datatype t ∷ ds) h = defined_lower script ds h.1
defined_lower script (constructor_of t c ∷ ds) h = defined_lower script ds h.1
defined_lower script (selector_of t c f ∷ ds) h = defined_lower script ds h.1

pub commands_lower : (cs : List PlainCommand) → AreSoundCommands cs → AppliesLower (defined_in (declared_in cs))
commands_lower cs sound =
    let declared = declared_in cs in
    all_of_each IsLower (defined_in declared) (defined_lower declared declared (each_of_all (IsSoundDeclaration declared) declared sound.declarations))

-- what a script keeps of its commands is lower
pub script_lower : (script : Kept) → KeepsDefined script → IsSound script → AppliesLower (plain_defs script.defs)
script_lower script keeps sound = subst AppliesLower (sym keeps.defs) (commands_lower (commands_of script) sound.commands_sound)
