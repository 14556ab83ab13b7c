-- Where files are, and that writing one leaves the others.
use Rattle.std.proofs.Common.{◌≡◌, ◌≢◌, ℕ, ◌<◌, ℤ, Bool, List, length, Option, Some, None, slice_index_or, slice_set, refl, sym, ◌∙◌, ap}
use Rattle.std.specs.List.{position_or_len}
use Rattle.std.specs.Ordering.{int_eq}
use Rattle.std.proofs.lemmas.Bool.Decides.{Decides-int_eq}
use Rattle.std.proofs.lemmas.List.{get_or-set_same, get_or-set_other, length-set}
use Rattle.std.proofs.lemmas.List.Folds.{position_or_len-set}
use Rattle.std.proofs.lemmas.List.Quantifiers.{position-Some}
use Rattle.rc_device.specs.Files.{DiskFile, no_file, place_of, content_if, content_of, with_content}

pub place_within : (files : List DiskFile) (fd : ℤ) (k : ℕ) → place_of files fd ≡ Some k → k < length files
unfolding place_of
place_within files fd k e = (position-Some (λ (f : DiskFile). int_eq f.fd fd) files k no_file e).0

pub fd_at : (files : List DiskFile) (fd : ℤ) (k : ℕ) → place_of files fd ≡ Some k → (slice_index_or files k no_file).fd ≡ fd
unfolding place_of
fd_at files fd k e = (Decides-int_eq _ _).0 (position-Some (λ (f : DiskFile). int_eq f.fd fd) files k no_file e).1

pub place_stays : (files : List DiskFile) (k : ℕ) (content : List ℕ) (fd : ℤ) → place_of (with_content files k content) fd ≡ place_of files fd
unfolding place_of
place_stays files k content fd =
    let p : DiskFile → Bool = λ (f : DiskFile). int_eq f.fd fd in
    let y : DiskFile = record (slice_index_or files k no_file) { content = content } in
    let first : position_or_len p (slice_set files k y) ≡ position_or_len p files = position_or_len-set p files k y no_file refl in
    simp (first, length-set {A = DiskFile}) refl

pub written_reads : (files : List DiskFile) (fd : ℤ) (k : ℕ) (content : List ℕ) → place_of files fd ≡ Some k
    → content_of (with_content files k content) fd ≡ content
written_reads files fd k content e =
    ap (content_if (with_content files k content)) (place_stays files k content fd ∙ e)
    ∙ ap (λ (f : DiskFile). f.content) (get_or-set_same files k _ no_file (place_within files fd k e))

other_reads : (files : List DiskFile) (fd other : ℤ) (k : ℕ) (content : List ℕ) → place_of files fd ≡ Some k → other ≢ fd
    → (o : Option ℕ) → place_of files other ≡ o → content_if (with_content files k content) o ≡ content_if files o
other_reads files fd other k content e ne None is = refl
other_reads files fd other k content e ne (Some j) is =
    let apart : j ≢ k = λ (same : j ≡ k). ne (sym (fd_at files other j is) ∙ ap (λ (i : ℕ). (slice_index_or files i no_file).fd) same ∙ fd_at files fd k e) in
    ap (λ (f : DiskFile). f.content) (get_or-set_other files k j _ no_file apart)

pub others_stay : (files : List DiskFile) (fd other : ℤ) (k : ℕ) (content : List ℕ) → place_of files fd ≡ Some k → other ≢ fd
    → content_of (with_content files k content) other ≡ content_of files other
others_stay files fd other k content e ne =
    ap (content_if (with_content files k content)) (place_stays files k content other)
    ∙ other_reads files fd other k content e ne (place_of files other) refl
