use Rattle.std.proofs.Common.{◌≡◌, ℕ, Bool, true, false, Option, Some, slice_get, ap, sym, subst, ◌∙◌}
use Rattle.rc_lang.specs.Parts.{view_items, view_thread}
use Rattle.rc_lang.specs.Program.{Items, Thread}
use Rattle.rc_lang.proofs.Views.{sees}
use Rattle.rc_split.specs.Bags.{bag_of}
use Rattle.rc_rules.specs.Labellings.{start_of}
use Rattle.rc_rules.specs.Labels.{Dead, IsSame, Live}
use Rattle.rc_rules.specs.Rules.{unlocked}
use Rattle.rc_rules.specs.Sides.{on}
use Rattle.rc_rules.specs.States.{BeginsAs, Side, label_of, side_label}
use Rattle.rc_rules.proofs.Headers.{thread_at}
use Rattle.rc_rules.proofs.state.State.first.Goals as goal

begins : (flag : Option ℕ) (zero other : Side) (items : Items) (t : Thread) → flag ≡ t.flag → items ≡ t.items → IsSame (side_label zero) (Live (bag_of items) unlocked) → side_label other ≡ Dead → BeginsAs (record { flag = flag; zero = zero; other = other }) t
begins flag zero other items t f e h d = record { flag = f; each = each }
  where
    each : (z : Bool) → IsSame (label_of (record { flag = flag; zero = zero; other = other }) z) (on z (start_of t))
    each true = subst (λ (i : Items). IsSame (side_label zero) (Live (bag_of i) unlocked)) e h
    each false = subst (λ l. IsSame l Dead) (sym d) tt

pub returns : goal.returns
returns c = (
  c.first.ensures.of ∙ sees c.view-view.result c.args.program.now c.args.thread c.view-view.ensures.program c.view-view.ensures.thread,
  λ t e.
      let at : slice_get c.args.program.now.threads c.args.thread ≡ Some (view_thread c.index-threads-thread.result) = thread_at c.args.program.now c.threads.result.now c.args.thread c.index-threads-thread.result c.threads.ensures.value c.requires ∙ ap (λ x. Some (view_thread x)) (sym c.index-threads-thread.is) in
      let same : view_thread c.index-threads-thread.result ≡ t = cc (at, e) in
      begins c.flag.result c.first.result c.dead.result (view_items c.header.result.now) t (c.flag.ensures ∙ ap (λ (x : Thread). x.flag) same) (c.header.ensures.items t e) c.first.ensures.label (ap side_label c.dead.ensures),
)
