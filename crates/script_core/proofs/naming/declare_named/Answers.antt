use Rattle.std.proofs.Common.{refl}
use Rattle.script_core.proofs.ReadyScopes.{constant_stands, scopes_stand, store_stands, with_store}
use Rattle.script_core.proofs.TakingParts.{name_added}
use Rattle.script_core.proofs.naming.declare_named.Goals as goal

pub returns-in-Ok-declare_fun-clause-effect : goal.returns-in-Ok-declare_fun-clause-effect
returns-in-Ok-declare_fun-clause-effect c = let scope = c.args.scope.now in
    name_added scope.world.names scope c.copy.new.self c.declare_fun.new.self c.in-Some.next c.args.def.now c.new.result c.in-Ok.result c.new.ensures c.in-Ok-declare_fun.ensures.ok c.in-Some.ensures.1 c.in-Ok.ensures.tree

pub returns-in-Ok-declare_fun-clause-stands : goal.returns-in-Ok-declare_fun-clause-stands
returns-in-Ok-declare_fun-clause-stands c = let scope = c.args.scope.now in
    constant_stands scope c.copy.new.self c.declare_fun.new.self c.in-Some.next c.args.def.now.name _ c.requires.stands c.requires.logic c.in-Ok.ensures.grows c.in-Ok.ensures.distinct c.in-Ok-declare_fun.ensures.ok c.new.ensures refl c.in-Ok.ensures.interned

pub returns-in-Err-declare_fun-clause-stands : goal.returns-in-Err-declare_fun-clause-stands
returns-in-Err-declare_fun-clause-stands c = let scope = c.args.scope.now in
    scopes_stand (with_store c.copy.new.self scope) c.declare_fun.new.self c.in-Err-declare_fun.ensures.err (store_stands scope c.copy.new.self c.requires.stands c.in-Ok.ensures.grows c.in-Ok.ensures.distinct)
