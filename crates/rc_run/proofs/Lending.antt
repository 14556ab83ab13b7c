-- Jobs of pending requests.
use Rattle.std.proofs.Common.{◌≡◌, ℕ, ◌<◌, ◌≤◌, inl, inr, true, false, List, [], length, Option, Some, None, nat_eq, slice_get, refl, sym, ap, subst, ◌∙◌, arith}
use Rattle.std.specs.Prelude.{unwrap_or}
use Rattle.std.proofs.lemmas.Bool.{and_parts, cases_lt, eqb-true, leb-true}
use Rattle.std.proofs.lemmas.List.{get_or_past}
use Rattle.std.proofs.lemmas.Option.{same_Some}
use Rattle.rc_lang.specs.declared.request.Kind.{Kind}
use Rattle.rc_lang.specs.declared.request.Kind.TheVariants.{Nop, Fsync, Read, Write, Other}
use Rattle.rc_lang.specs.Program.{Buffer, Program, bytes_at, no_buffer}
use Rattle.rc_lang.specs.Kept.{IsProgram}
use Rattle.rc_world.specs.declared.fault.FaultKind.TheVariants.{KernelClash}
use Rattle.rc_world.specs.Faults.{has_buffer, reads_into}
use Rattle.rc_world.specs.Kept.{IsKeptPending}
use Rattle.rc_world.specs.Machine.{Pending, World, bytes_of, is_read}
use Rattle.rc_world.proofs.LawFaultless.{none_in_kernel, none_of_kind}
use Rattle.rc_world.proofs.Lists.{found, get_none, get_of}
use Rattle.rc_run.specs.Calm.{IsCalm}
use Rattle.rc_run.specs.Jobs.{IsJob}
use Rattle.rc_run.specs.Lives.{IsJobOf, bytes_by, bytes_for}

buffer_small : (P : Program) → IsProgram P → (b : ℕ) → bytes_at P.buffers b ≤ 4096
buffer_small P made b = elim (cases_lt b (length P.buffers)) [
  | inl lt ↦ (made.buffers b no_buffer lt).bytes.1
  | inr le ↦ let e : bytes_at P.buffers b ≡ 0 = ap (λ (x : Buffer). x.bytes) (get_or_past P.buffers b no_buffer le) in omega arith
]

read_kind : (k : Kind) → is_read k ≡ true → k ≡ Read
read_kind Read e = refl
read_kind _ e = absurd (cc)

module _ (w : World) (c : IsCalm w) (k : ℕ) (p : Pending) (here : slice_get w.pending k ≡ Some p) where
  held : IsKeptPending w.program w.pending p
  held = c.kept.memory.pending k p here

  within : p.request.len ≤ bytes_at w.program.buffers p.request.buffer
  within = leb-true p.request.len _ held.fitting.room

  pub small : p.request.len ≤ 4096
  small =
      let le : p.request.len ≤ bytes_at w.program.buffers p.request.buffer = within in
      let few = buffer_small w.program c.kept.made p.request.buffer in
      omega (arith, le, few)

  read_enough : p.request.kind ≡ Read → p.request.len ≤ length (unwrap_or p.bytes [])
  read_enough is = go p.bytes refl
    where
      go : (o : Option (List ℕ)) → p.bytes ≡ o → p.request.len ≤ length (unwrap_or o [])
      go None e =
          let clash = held.stands (ap is_read is) e in
          let none = none_in_kernel w KernelClash (none_of_kind w c.no_fault KernelClash) in
          absurd (cc)
      go (Some bytes) e =
          let s : length bytes ≡ bytes_at w.program.buffers p.request.buffer = held.sized bytes e in
          let le : p.request.len ≤ bytes_at w.program.buffers p.request.buffer = within in
          omega (arith, s, le)

  write_within : p.request.kind ≡ Write → p.request.buffer < length w.buffers
  write_within is = subst (λ n. p.request.buffer < n) (sym c.kept.memory.as_many) (held.fitting.exists (ap has_buffer is))

  write_enough : p.request.kind ≡ Write → p.request.len ≤ length (unwrap_or (bytes_of w p.request.buffer) [])
  write_enough is = go (bytes_of w p.request.buffer) refl
    where
      go : (o : Option (List ℕ)) → bytes_of w p.request.buffer ≡ o → p.request.len ≤ length (unwrap_or o [])
      go None e =
          let filling = c.kept.memory.filled p.request.buffer (get_none w.buffers p.request.buffer (write_within is) e) in
          let f = found (λ (q : Pending). reads_into p.request.buffer q.request) w.pending filling in
          let b = and_parts (is_read f.1.request.kind) (nat_eq f.1.request.buffer p.request.buffer) f.3 in
          let read = read_kind f.1.request.kind b.0 in
          absurd (c.no_clash f.0 k p.request.buffer f.1.request p.request (λ q. other q f.1 f.2 read) (f.1, f.2, refl) (p, here, refl) (read, eqb-true f.1.request.buffer p.request.buffer b.1) (inr is, refl))
        where
          other : {j : ℕ} → j ≡ k → (q : Pending) → slice_get w.pending j ≡ Some q → q.request.kind ≡ Read → ⊥
          other same q at read =
              let one : q ≡ p = same_Some q p (sym at ∙ ap (slice_get w.pending) same ∙ here) in
              let kinds : Read ≡ Write = sym read ∙ ap (λ (x : Pending). x.request.kind) one ∙ is in
              absurd (cc)
      go (Some bytes) e =
          let s : length bytes ≡ bytes_at w.program.buffers p.request.buffer = c.kept.memory.sized p.request.buffer bytes (get_of w.buffers p.request.buffer bytes e) in
          let le : p.request.len ≤ bytes_at w.program.buffers p.request.buffer = within in
          omega (arith, s, le)

  -- bytes for the request are enough
  enough : (kind : Kind) → p.request.kind ≡ kind → p.request.len ≤ length (bytes_by w p kind)
  enough Nop is = let z : p.request.len ≡ 0 = c.plain k p here (ap has_buffer is) in omega (arith, z)
  enough Fsync is = let z : p.request.len ≡ 0 = c.plain k p here (ap has_buffer is) in omega (arith, z)
  enough Other is = let z : p.request.len ≡ 0 = c.plain k p here (ap has_buffer is) in omega (arith, z)
  enough Read is = read_enough is
  enough Write is = write_enough is

  pub fed : (bytes : List ℕ) → bytes ≡ bytes_for w p → IsJob (record { request = p.request; bytes = bytes; starved = false })
  fed bytes e = record {
    small = small;
    enough = λ f. subst (λ xs. p.request.len ≤ length xs) (sym e) (enough p.request.kind refl);
    none = λ f. absurd (cc);
    of_write = λ f. absurd (cc);
  }

  pub starves : p.request.kind ≡ Write → (bytes : List ℕ) → bytes ≡ [] → IsJob (record { request = p.request; bytes = bytes; starved = true })
  starves is bytes e = record { small = small; enough = λ f. absurd (cc); none = λ f. e; of_write = λ f. is }

  pub fed_of : (bytes : List ℕ) → bytes ≡ bytes_for w p → (q : Pending) → slice_get w.pending k ≡ Some q → IsJobOf w q (record { request = p.request; bytes = bytes; starved = false })
  fed_of bytes e q at =
      subst (λ (x : Pending). IsJobOf w x (record { request = p.request; bytes = bytes; starved = false })) (same_Some p q (sym here ∙ at)) (record {
        request = refl;
        bytes = λ f. e;
        of_write = λ f. absurd (cc);
        none = λ f. absurd (cc);
      })

  pub starved_of : p.request.kind ≡ Write → (bytes : List ℕ) → bytes ≡ [] → (q : Pending) → slice_get w.pending k ≡ Some q → IsJobOf w q (record { request = p.request; bytes = bytes; starved = true })
  starved_of is bytes e q at =
      subst (λ (x : Pending). IsJobOf w x (record { request = p.request; bytes = bytes; starved = true })) (same_Some p q (sym here ∙ at)) (record {
        request = refl;
        bytes = λ f. absurd (cc);
        of_write = λ f. is;
        none = λ f. e;
      })
