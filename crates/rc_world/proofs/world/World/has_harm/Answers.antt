use Rattle.std.proofs.Common.{rules, ◌≡◌, false}
use Rattle.std.proofs.lemmas.Bool.{OnFalse_at, OnFalse_from}
use Rattle.rc_world.specs.Faults.{clashes, overflows}
use Rattle.rc_world.proofs.LawFaultless.{without_fault}
use Rattle.rc_world.proofs.world.World.has_harm.Goals.{then-self, else-self}
use Rattle.rc_world.proofs.world.World.has_harm.Goals as goal

pub returns-else-overflows : goal.returns-else-overflows
returns-else-overflows c = elim c.if-self.branch [
  | then-self b ↦ absurd (cc)
  | else-self b ↦
      let clash : clashes c.args.self.now.pending ≡ false = search rules in
      let over : overflows c.args.self.now c.args.self.now.pending ≡ false = search rules in
      OnFalse_from c.has_harmful_thread.result _ (λ e. without_fault c.args.self.now clash over (λ kind j l n. OnFalse_at e c.has_harmful_thread.ensures j kind l n))
]
