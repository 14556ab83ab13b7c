-- What serving a request answers and leaves, over the files of a disk and the bytes that are handed in with it.
use Rattle.std.specs.Prelude.{ℕ, ◌+◌, ◌-◌, ℤ, pos, negsuc, min, ◌==◌, nat_le, if◌then◌else◌, List, [], ◌∷◌, ◌++◌, length, take, drop, replicate, map, Option, Some, None, position, slice_index_or, slice_set}
use Rattle.std.specs.Ordering.{int_eq}
use Rattle.rc_lang.specs.declared.program.File.{File}
use Rattle.rc_lang.specs.declared.request.Kind.{Kind}
use Rattle.rc_lang.specs.declared.request.Kind.TheVariants.{Nop, Fsync, Read, Write, Other}
use Rattle.rc_lang.specs.declared.request.Request.{Request}

-- a file of a disk: its number and its bytes
pub record DiskFile : Type 0 where
  pub fd : ℤ
  pub content : List ℕ

-- the files that a program declares, each of its declared length of zero bytes
abbrev pub blank_file : File → DiskFile
blank_file file = record { fd = pos file.number; content = replicate file.len 0 }

abbrev pub blank_files : List File → List DiskFile
blank_files files = map blank_file files

-- the place of the file with this number
unfoldable pub place_of : List DiskFile → ℤ → Option ℕ
place_of files fd = position (λ (f : DiskFile). int_eq f.fd fd) files

-- the bytes of the file at a place, and the files with others there
abbrev pub no_file : DiskFile
no_file = record { fd = negsuc 0; content = [] }

abbrev pub content_at : List DiskFile → ℕ → List ℕ
content_at files k = (slice_index_or files k no_file).content

abbrev pub with_content : List DiskFile → ℕ → List ℕ → List DiskFile
with_content files k content = slice_set files k (record (slice_index_or files k no_file) { content = content })

-- the bytes of the file with this number; none where it isn't there
abbrev pub content_if : List DiskFile → Option ℕ → List ℕ
content_if files None = []
content_if files (Some k) = content_at files k

abbrev pub content_of : List DiskFile → ℤ → List ℕ
content_of files fd = content_if files (place_of files fd)

-- what pread(2) moves: at most `count` bytes of the file, from `off` on; none from its end on
abbrev pub read_from : List ℕ → ℕ → ℕ → List ℕ
read_from content off count = take count (drop off content)

-- The file after pwrite(2) of these bytes at `off`. Where it ended before that, zeros fill the gap (lseek(2)). A write
-- of no bytes leaves it as it was.
abbrev pub written_to : List ℕ → ℕ → List ℕ → List ℕ
written_to content off [] = content
written_to content off (b ∷ bytes) =
    take off (content ++ replicate off 0) ++ (b ∷ bytes) ++ drop (off + length (b ∷ bytes)) content

-- What serving a request gives: the answer, a count of bytes or a negative errno, the files, and the bytes that were
-- handed in with it.
pub record Served : Type 0 where
  pub answer : ℤ
  pub files : List DiskFile
  pub bytes : List ℕ

abbrev pub nothing_moved : List DiskFile → List ℕ → ℤ → Served
nothing_moved files bytes answer = record { answer = answer; files = files; bytes = bytes }

-- EBADF and ENOSPC (errno(3))
abbrev pub bad_file : ℤ
bad_file = negsuc 8

abbrev pub no_space : ℤ
no_space = negsuc 27

-- What a request on a file gives that isn't made to fail, by its kind, with the place of the file, if it is there;
-- `count` is how many bytes it moves at most (io_uring_enter(2)). An fsync moves none,
abbrev pub served_fsync : List DiskFile → List ℕ → Option ℕ → Served
served_fsync files bytes None = nothing_moved files bytes bad_file
served_fsync files bytes (Some k) = nothing_moved files bytes (pos 0)

-- a read moves bytes of the file to the front of those handed in,
abbrev pub served_read : List DiskFile → List ℕ → (off count : ℕ) → Option ℕ → Served
served_read files bytes off count None = nothing_moved files bytes bad_file
served_read files bytes off count (Some k) =
    let moved = read_from (content_at files k) off count in
    record { answer = pos (length moved); files = files; bytes = moved ++ drop (length moved) bytes }

-- and a write moves the first of those handed in to the file, which has room for 65,536.
abbrev pub served_write : List DiskFile → List ℕ → (off len count : ℕ) → Option ℕ → Served
served_write files bytes off len count None = nothing_moved files bytes bad_file
served_write files bytes off len count (Some k) =
    if len == 0 then nothing_moved files bytes (pos 0)
    else if nat_le 65536 off then nothing_moved files bytes no_space
    else let moved = take (min count (65536 - off)) bytes in
    record { answer = pos (length moved); files = with_content files k (written_to (content_at files k) off moved); bytes = bytes }

-- A request with a grant of so many bytes moves at most these, and at most its length. One of any other kind moves none
-- and is answered with the grant.
abbrev pub granted : List DiskFile → Request → List ℕ → ℕ → Kind → Served
granted files request bytes grant Nop = nothing_moved files bytes (pos 0)
granted files request bytes grant Fsync = served_fsync files bytes (place_of files request.fd)
granted files request bytes grant Read = served_read files bytes request.off (min request.len grant) (place_of files request.fd)
granted files request bytes grant Write =
    served_write files bytes request.off request.len (min request.len grant) (place_of files request.fd)
granted files request bytes grant Other = nothing_moved files bytes (pos grant)

-- A request with any grant: how many bytes it moves at most, or the negative errno with which it fails.
abbrev pub served : List DiskFile → Request → List ℕ → ℤ → Served
served files request bytes (pos n) = granted files request bytes n request.kind
served files request bytes (negsuc n) = nothing_moved files bytes (negsuc n)
