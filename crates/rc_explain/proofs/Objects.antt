-- Members that are put into an object one after another.
use Rattle.std.proofs.Common.{◌≡◌, ℕ, List, Option, Some, None, false, true≢false, codes, bytes_eq, refl, sym, subst, ◌∙◌, BTreeMap}
use Rattle.std.proofs.lemmas.Slice.Eq.{bytes_eq-Decides}
use Rattle.std.specs.declared.alloc.Global.{Global}
use Rattle.std.specs.Prelude.{String}
use Rattle.serde_json.specs.Data.{Data, Members, number, object, put, string, unsigned}
use Rattle.serde_json.specs.Find.{get_member}
use Rattle.serde_json.specs.View.{members_view}
use Rattle.serde_json.specs.declared.value.Value.{Value}
use Rattle.serde_json.proofs.Views.{get_member-put, get_member-put_other}
use Rattle.rc_report.specs.declared.verdict.Verdict.{Verdict}
use Rattle.rc_report.specs.declared.verdict.Verdict.TheVariants.{Accepted, Refused, Unreadable}
use Rattle.rc_explain.specs.Explains.{HasMember, TellsFile, TellsLine, TellsVerdict}
use Rattle.rc_explain.specs.Members.{IsNamed, whole}

-- Another member keeps its value.
passes : (q k : List ℕ) (d : Data) (ms : Members) → bytes_eq q k ≡ false → get_member q (put k d ms) ≡ get_member q ms
passes q k d ms e = get_member-put_other q k d ms (λ h. true≢false (sym ((bytes_eq-Decides q k).1 h) ∙ e))

-- What is put last of a line that isn't good is said of it, whatever the other members are.
line_is_told : (ms : Members) (word name : List ℕ) (code line : ℕ)
    → TellsLine word name code line (object (put (codes "verdict") (string word) (put (codes "line") (number (unsigned line)) (put (codes "code") (number (unsigned code)) (put (codes "cause") (string name) ms)))))
line_is_told ms word name code line =
    let a : Members = put (codes "cause") (string name) ms in
    let b : Members = put (codes "code") (number (unsigned code)) a in
    let d : Members = put (codes "line") (number (unsigned line)) b in (
      get_member-put (codes "verdict") (string word) d,
      passes (codes "cause") (codes "verdict") (string word) d refl ∙ passes (codes "cause") (codes "line") (number (unsigned line)) b refl
          ∙ passes (codes "cause") (codes "code") (number (unsigned code)) a refl ∙ get_member-put (codes "cause") (string name) ms,
      passes (codes "code") (codes "verdict") (string word) d refl ∙ passes (codes "code") (codes "line") (number (unsigned line)) b refl
          ∙ get_member-put (codes "code") (number (unsigned code)) a,
      passes (codes "line") (codes "verdict") (string word) d refl ∙ get_member-put (codes "line") (number (unsigned line)) b,
    )

pub line_along : (m n o p q : Members) (word name : List ℕ) (code line : ℕ) → n ≡ put (codes "cause") (string name) m → o ≡ put (codes "code") (number (unsigned code)) n
    → p ≡ put (codes "line") (number (unsigned line)) o → q ≡ put (codes "verdict") (string word) p → TellsLine word name code line (object q)
line_along m n o p q word name code line a b d e = rw (e, d, b, a) (line_is_told m word name code line)

-- ---- the name of a file

-- What was said of the verdict stays where the name is put.
stays : (key file : List ℕ) (ms : Members) → bytes_eq key (codes "file") ≡ false → get_member key (put (codes "file") (string file) ms) ≡ get_member key ms
stays key file ms e = passes key (codes "file") (string file) ms e

line_stays : (word name : List ℕ) (code line : ℕ) (file : List ℕ) (ms : Members) → TellsLine word name code line (object ms) → TellsLine word name code line (object (put (codes "file") (string file) ms))
line_stays word name code line file ms h = (
  stays (codes "verdict") file ms refl ∙ h.0,
  stays (codes "cause") file ms refl ∙ h.1,
  stays (codes "code") file ms refl ∙ h.2,
  stays (codes "line") file ms refl ∙ h.3,
)

verdict_stays : (v : Verdict) (file : List ℕ) (ms : Members) → TellsVerdict v (object ms) → TellsVerdict v (object (put (codes "file") (string file) ms))
verdict_stays Accepted file ms h = (
  stays (codes "verdict") file ms refl ∙ h.0,
  stays (codes "cause") file ms refl ∙ h.1,
  stays (codes "code") file ms refl ∙ h.2,
  stays (codes "line") file ms refl ∙ h.3,
)
verdict_stays (Refused r) file ms h = line_stays _ _ _ _ file ms h
verdict_stays (Unreadable line cause) file ms h = line_stays _ _ _ _ file ms h

pub file_is_named : (file : Option (List ℕ)) (v : Verdict) (old new : BTreeMap (String Global) Value) → IsNamed file old new → TellsVerdict v (whole old) → TellsVerdict v (whole new) × TellsFile file (whole new)
file_is_named None v old new same h = (subst (λ (m : BTreeMap (String Global) Value). TellsVerdict v (whole m)) (sym same) h, tt)
file_is_named (Some file) v old new is h =
    let before = members_view old.entries in (
      subst (λ (ms : Members). TellsVerdict v (object ms)) (sym is) (verdict_stays v file before h),
      subst (λ (ms : Members). HasMember (codes "file") (string file) (object ms)) (sym is) (get_member-put (codes "file") (string file) before),
    )
