use Rattle.std.proofs.Common.{◌≡◌, map, replicate, take, Some}
use Rattle.rc_lang.specs.declared.program.Buffer.{Buffer}
use Rattle.rc_world.proofs.world.zeroed.Given as goal

abbrev pub invariant-loop-buffer : goal.invariant-loop-buffer
invariant-loop-buffer l = l.zeroed.items ≡ map (λ (b : Buffer). Some (replicate b.bytes 0)) (take l.buffer-index l.buffers)
