use Rattle.std.proofs.Common.{◌≡◌, ◌≤◌, length, map, take, vec_len, vec_capacity}
use Rattle.rc_device.specs.Files.{blank_file}
use Rattle.rc_device.proofs.disk.Disk.new.Given as goal

abbrev pub invariant-loop-file : goal.invariant-loop-file
invariant-loop-file l = record {
  made : l.files.items ≡ map blank_file (take l.file-index l.program.files);
  len : vec_len l.files ≡ l.file-index;
  room : length l.program.files ≤ vec_capacity l.files;
}
