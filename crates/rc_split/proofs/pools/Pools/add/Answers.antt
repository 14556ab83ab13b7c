use Rattle.std.proofs.Common.{◌≡◌, ◌<◌, length, Some, None, subst, sym, arith}
use Rattle.std.proofs.lemmas.List.{get_or_read}
use Rattle.rc_lang.specs.Parts.{view_items}
use Rattle.rc_split.specs.Pools.{CanAdd, Pool, Pools, no_pool, pool_of}
use Rattle.rc_split.proofs.pools.Pools.add.Goals as goal

pub put-requires : goal.put-requires
put-requires c =
    let P = c.args.program.now in
    let items = view_items c.args.items.now in
    let pools : Pools = record { unnamed = c.self.inside.unnamed; named = c.self.inside.named.items } in
    let room = subst (λ (x : Pools). CanAdd P (pool_of x (Some c.in-Some.name)) items) (sym c.self.view_is) (subst (λ name. CanAdd P (pool_of c.args.self.now name) items) c.in-Some.is c.requires) in
    let within : c.in-Some.name < length c.self.inside.named.items = omega (arith, c.if-name-len.true, c.len.ensures) in
    let there : c.index_mut.result.now ≡ pool_of pools (Some c.in-Some.name) = get_or_read c.self.inside.named.items c.in-Some.name c.index_mut.result.now within c.index_mut.ensures.value no_pool in
    subst (λ (pool : Pool). CanAdd P pool items) (sym there) room

pub put-requires-in-None : goal.put-requires-in-None
put-requires-in-None c =
    let P = c.args.program.now in
    let items = view_items c.args.items.now in
    subst (λ (x : Pools). CanAdd P (pool_of x None) items) (sym c.self.view_is) (subst (λ name. CanAdd P (pool_of c.args.self.now name) items) c.in-None.is c.requires)
