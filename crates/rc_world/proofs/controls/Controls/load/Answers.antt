use Rattle.std.proofs.Common.{◌≡◌, FitsSigned, w64, pos, rules, ap, ◌∙◌}
use Rattle.std.proofs.lemmas.Int.{to_z-of_z}
use Rattle.rc_world.specs.Changes.{standing_at, with_variable}
use Rattle.rc_world.specs.Controls.{loads, made}
use Rattle.rc_world.proofs.Threads.{sets_is}
use Rattle.rc_world.proofs.controls.Controls.load.Goals as goal

pub returns : goal.returns
returns c =
    let old = c.args.self.now in
    let fits : FitsSigned w64 c.from.result = search rules in
    let plain : c.from.result ≡ pos c.in-Byte.byte = search rules in
    let byte = to_z-of_z w64 c.from.result fits ∙ plain in
    let set = c.set.ensures ∙ ap (with_variable old c.args.thread c.args.x) byte in
    ap (λ a. made c.args.program.now old c.args.thread (loads old (standing_at old c.args.thread) c.args.x a)) c.in-Byte.is
    ∙ sets_is c.args.program.now old c.set.new.self c.args.thread c.args.x (pos c.in-Byte.byte) _ set c.requires.exists
    ∙ c.pass.ensures
