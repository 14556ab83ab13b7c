-- The place of a name among parts is its place among what they stand for.
use Rattle.std.proofs.Common.{◌≡◌, ℕ, ◌+◌, List, [], ◌∷◌, length, map, Bool, not, cond, refl, sym, ap, ◌∙◌}
use Rattle.std.specs.Global.{Vec}
use Rattle.std.specs.List.{position, prefix_len}
use Rattle.std.specs.Str.{bytes_eq}
use Rattle.std.proofs.lemmas.List.{length-map}
use Rattle.rc_lang.specs.declared.program.Buffer.{Buffer as BufferPart}
use Rattle.rc_lang.specs.declared.program.Thread.{Thread as ThreadPart}
use Rattle.rc_lang.specs.Parts.{view_buffer, view_names, view_thread}
use Rattle.rc_lang.specs.Program.{Buffer, Thread}

prefix_map : {A B : Type 0} (f : A → B) (test : B → Bool) (xs : List A) → prefix_len test (map f xs) ≡ prefix_len (λ x. test (f x)) xs
prefix_map f test [] = refl
prefix_map f test (x ∷ xs) = ap (λ (k : ℕ). cond (test (f x)) (1 + k) 0) (prefix_map f test xs)

position_map : {A B : Type 0} (f : A → B) (test : B → Bool) (xs : List A) → position test (map f xs) ≡ position (λ x. test (f x)) xs
position_map f test xs = rw (prefix_map f (λ y. not (test y)) xs, length-map xs f) refl

pub place_of_thread : (parts : List ThreadPart) (threads : List Thread) (name : List ℕ) → map view_thread parts ≡ threads → position (λ (t : ThreadPart). bytes_eq t.name.items name) parts ≡ position (λ (t : Thread). bytes_eq t.name name) threads
place_of_thread parts threads name e = sym (position_map view_thread (λ (t : Thread). bytes_eq t.name name) parts) ∙ ap (position (λ (t : Thread). bytes_eq t.name name)) e

pub place_of_buffer : (parts : List BufferPart) (buffers : List Buffer) (name : List ℕ) → map view_buffer parts ≡ buffers → position (λ (b : BufferPart). bytes_eq b.name.items name) parts ≡ position (λ (b : Buffer). bytes_eq b.name name) buffers
place_of_buffer parts buffers name e = sym (position_map view_buffer (λ (b : Buffer). bytes_eq b.name name) parts) ∙ ap (position (λ (b : Buffer). bytes_eq b.name name)) e

pub place_of_pool : (parts : List (Vec ℕ)) (pools : List (List ℕ)) (name : List ℕ) → view_names parts ≡ pools → position (λ (n : Vec ℕ). bytes_eq n.items name) parts ≡ position (λ n. bytes_eq n name) pools
place_of_pool parts pools name e = sym (position_map (λ (n : Vec ℕ). n.items) (λ n. bytes_eq n name) parts) ∙ ap (position (λ n. bytes_eq n name)) e
