use Rattle.std.proofs.Common.{◌<◌, ℕ, length, refl, sym, subst, ◌∙◌, arith}
use Rattle.std.proofs.lemmas.Option.{same_Some, slice_get_read}
use Rattle.rc_runs.specs.Closing.{IsQuiet, IsThreadLed}
use Rattle.rc_runs.proofs.Closed.{grown_on, led_more, none_is, quiet_all}
use Rattle.rc_runs.proofs.stuck.closing.Reached.close.Goals as goal
use Rattle.rc_lang.specs.Kept.{IsProgram}

pub loop-thread-preserved : goal.loop-thread-preserved
loop-thread-preserved c =
    let before = c.loop-thread.invariant in
    let grown = c.in_ok-close_thread.ensures.grown in
    record {
      grown = grown_on _ _ _ before.grown grown;
      led = λ w at. led_more c.args.kept.now w _ _ c.loop-thread.thread grown (before.led w at) (c.in_ok-close_thread.ensures.leads c.if-not-branch.false w (before.grown.kept _ w at));
    }

pub returns-clause-quiet : goal.returns-clause-quiet
returns-clause-quiet c = λ _ w at.
    let ws = c.loop-thread.self.worlds.items in
    let count = length c.threads.result.now in
    let here = slice_get_read c.args.self.now.worlds.items _ c.args.number c.index-world.result.now refl c.requires.there c.index-world.ensures in
    let few = sym c.place.ensures ∙ none_is c.place.result c.if-is_some.ensures in
    let led : (i : ℕ) → i < count → IsThreadLed c.args.kept.now c.index-world.result.now ws i = λ i within. c.loop-thread.invariant.led c.index-world.result.now here i (omega (arith, within, c.loop-thread-test.false)) in
    let made = subst IsProgram c.program.ensures c.threads.ensures.made in
    let quiet = quiet_all c.args.kept.now c.index-world.result.now ws count made (c.is_calm.ensures c.if-not-is_calm.false) few led in
    subst (IsQuiet c.args.kept.now ws) (same_Some _ w (sym here ∙ at)) quiet
