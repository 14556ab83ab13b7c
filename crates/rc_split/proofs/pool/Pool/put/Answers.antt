use Rattle.std.proofs.Common.{◌≡◌, ◌+◌, ◌<◌, ◌^◌, ◌⊎◌, List, inl, inr, slice_index, subst, sym, arith}
use Rattle.rc_lang.specs.declared.program.Share.{Share}
use Rattle.rc_lang.specs.Parts.{view_items}
use Rattle.rc_split.specs.Bags.{ShareOf, Credit}
use Rattle.rc_split.specs.Pools.{CanAdd, Pool}
use Rattle.rc_split.proofs.PoolBags.{shares_in}
use Rattle.rc_split.proofs.pool.Pool.put.Goals as goal

pub add_shares-requires : goal.add_shares-requires
add_shares-requires c =
    let items = view_items c.args.items.now in
    λ b. subst (λ (xs : List Share). (shares_in xs b ≡ 0) ⊎ (slice_index c.self.inside.shares.items b + shares_in xs b < 2 ^ 32)) (sym c.deref.ensures.value) (subst (λ (p : Pool). (shares_in items.shares b ≡ 0) ⊎ (slice_index p.shares b + shares_in items.shares b < 2 ^ 32)) (sym c.self.view_is) (c.requires (ShareOf b)))

pub overflow_add-self : goal.overflow_add-self
overflow_add-self c =
    let fits = subst (λ (p : Pool). CanAdd c.args.program.now p (view_items c.args.items.now)) (sym c.self.view_is) c.requires in
    elim (fits Credit) [ inl n ↦ omega (arith, n) | inr lt ↦ omega (arith, lt) ]
