use Rattle.std.proofs.Common.{◌≡◌, ◌+◌, map, drop}
use Rattle.rc_lang.specs.Parts.{view_buffer}
use Rattle.rc_read.specs.Sheets as spec
use Rattle.rc_read.proofs.names.find_buffer.Given as goal

abbrev pub invariant-loop-i : goal.invariant-loop-i
invariant-loop-i l = record {
  number : l.i + spec.buffer_number (map view_buffer (drop l.i l.buffers)) l.word ≡ spec.buffer_number (map view_buffer l.buffers) l.word;
  shares : spec.shares_in (map view_buffer (drop l.i l.buffers)) l.word ≡ spec.shares_in (map view_buffer l.buffers) l.word;
}
