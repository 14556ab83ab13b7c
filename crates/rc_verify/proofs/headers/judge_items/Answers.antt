use Rattle.rc_split.specs.Holdings.{bag}
use Rattle.rc_verify.proofs.Sums.{shares_over, tokens_numbered, tokens_twice, credits_over, all_fit}
use Rattle.rc_verify.proofs.headers.judge_items.Goals as goal

pub returns-then-not-shares_fit : goal.returns-then-not-shares_fit
returns-then-not-shares_fit c = λ all same. shares_over _ (bag c.args.held.now) c.args.copies c.args.tokens_allowed _ c.requires.some c.requires.alone c.requires.items c.requires.within all same (cc (c.if-not-shares_fit.true, c.shares_fit.ensures, c.deref.ensures.value))

pub returns-then-not-tokens_allowed : goal.returns-then-not-tokens_allowed
returns-then-not-tokens_allowed c = λ all same. tokens_numbered _ (bag c.args.held.now) c.args.copies c.args.tokens_allowed _ c.requires.some c.requires.alone c.requires.items c.requires.within all same (cc (c.if-not-shares_fit.false, c.shares_fit.ensures, c.deref.ensures.value)) (cc (c.if-not-tokens_allowed.true))

pub returns-then-not-tokens_fit : goal.returns-then-not-tokens_fit
returns-then-not-tokens_fit c = λ all same. tokens_twice _ (bag c.args.held.now) c.args.copies c.args.tokens_allowed _ c.requires.some c.requires.alone c.requires.items c.requires.within all same (cc (c.if-not-shares_fit.false, c.shares_fit.ensures, c.deref.ensures.value)) (cc (c.if-not-tokens_fit.true, c.tokens_fit.ensures, c.deref-2.ensures.value))

pub returns-then-not-fits : goal.returns-then-not-fits
returns-then-not-fits c = λ all same. credits_over _ (bag c.args.held.now) c.args.copies c.args.tokens_allowed _ c.requires.some c.requires.alone c.requires.items c.requires.within all same (cc (c.if-not-shares_fit.false, c.shares_fit.ensures, c.deref.ensures.value)) (cc (c.if-not-tokens_allowed.false)) (cc (c.if-not-tokens_fit.false, c.tokens_fit.ensures, c.deref-2.ensures.value)) (cc (c.if-not-fits.true, c.fits.ensures, c.credits.ensures, c.completion_entries-entries.ensures.value))

pub returns : goal.returns
returns c = λ all same. all_fit _ (bag c.args.held.now) c.args.copies c.args.tokens_allowed _ c.requires.some c.requires.alone c.requires.items c.requires.within all same (cc (c.if-not-shares_fit.false, c.shares_fit.ensures, c.deref.ensures.value)) (cc (c.if-not-tokens_allowed.false)) (cc (c.if-not-tokens_fit.false, c.tokens_fit.ensures, c.deref-2.ensures.value)) (cc (c.if-not-fits.false, c.fits.ensures, c.credits.ensures, c.completion_entries-entries.ensures.value))
