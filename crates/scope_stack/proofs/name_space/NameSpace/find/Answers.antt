use Rattle.std.proofs.Common.{◌≡◌, Some, ap, sym, ◌∙◌, option_copied, ◌++◌}
use Rattle.std.specs.Map.{lookup}
use Rattle.scope_stack.specs.Levels.{is_name, joined}
use Rattle.scope_stack.proofs.LevelsInOneList.{found_scoped}
use Rattle.scope_stack.proofs.name_space.NameSpace.find.Goals as goal

pub returns-in-Some : goal.returns-in-Some
returns-in-Some g c =
    let one : lookup (is_name c.args.name) c.self.inside.scoped.entries ≡ Some c.in-Some.entry.now = sym c.find_in.ensures ∙ ap option_copied c.in-Some.is in
    found_scoped (is_name c.args.name) c.self.inside.starts.items c.self.inside.scoped.entries c.self.inside.globals.entries c.in-Some.entry.now one
    ∙ ap (λ s. lookup (is_name c.args.name) (s.first ++ joined s.pushed ++ s.globals)) c.self.view_is
