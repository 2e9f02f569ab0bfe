-- A program whose issued numbers those of others raise is a program.
use Rattle.std.proofs.Common.{◌≡◌, ℕ, ◌+◌, ◌<◌, ◌==◌, Bool, true, false, max, nat_lt, if◌then◌else◌, inl, inr, List, [], ◌∷◌, ◌++◌, Contains, refl, sym, ap, ◌∙◌, subst, append_assoc, arith}
use Rattle.std.specs.List.{AllByRecursion}
use Rattle.std.proofs.lemmas.Bool.Decides.{nat_tests}
use Rattle.std.proofs.lemmas.List.{append-nil}
use Rattle.std.proofs.lemmas.List.Elements.{All-nil, Contains-push_cases}
use Rattle.std.proofs.lemmas.List.Sorted.{IsPermutation-refl}
use Rattle.hpr_terms.specs.Names.{IsVariable}
use Rattle.hpr_terms.proofs.Facts.{in_none, in_cons, in_here, in_later}
use Rattle.hpr_syntax.specs.Body.{done}
use Rattle.hpr_syntax.specs.Issued.{Issued, AscendsFrom, raised, raised_by}
use Rattle.hpr_syntax.specs.Proper.{IsProperPair}
use Rattle.hpr_syntax.specs.Shape.{IsProgram, shape}
use Rattle.hpr_syntax.specs.Tree.{Tree}
use Rattle.hpr_syntax.proofs.Raises.{one_side_spelled}
use Rattle.hpr_graph.specs.Answer.{issued_of_all}

-- numbers put into none are as they were
abbrev AllBelow : ℕ → Issued → Type 0
AllBelow a rows = (p : ℕ × ℕ) → Contains rows p → p.0 < a

put_last_if : (b c : Bool) (a n : ℕ) (p : ℕ × ℕ) (ps : Issued) → b ≡ false → c ≡ false → raised a n ps ≡ ps ++ (a, n) ∷ []
    → (if b then (a, n) ∷ p ∷ ps else if c then (a, max p.1 n) ∷ ps else p ∷ raised a n ps) ≡ p ∷ ps ++ (a, n) ∷ []
put_last_if false false a n p ps e f is = ap (λ (l : Issued). p ∷ l) is
put_last_if false true a n p ps e f is = absurd cc
put_last_if true c a n p ps e f is = absurd cc

put_last : (a n : ℕ) (rows : Issued) → AllBelow a rows → raised a n rows ≡ rows ++ (a, n) ∷ []
put_last a n [] below = refl
put_last a n (p ∷ ps) below =
    let less : p.0 < a = below p (in_here p ps) in
    put_last_if (nat_lt a p.0) (p.0 == a) a n p ps (grind (arith, nat_tests)) (grind (arith, nat_tests)) (put_last a n ps (λ q h. below q (in_later p q ps h)))

put_behind : (low : ℕ) (ps rows : Issued) → AscendsFrom low ps → AllBelow low rows → raised_by ps rows ≡ rows ++ ps
put_behind low [] rows ascend below = sym (append-nil rows)
put_behind low (p ∷ ps) rows ascend below =
    let first : raised p.0 p.1 rows ≡ rows ++ p ∷ [] = put_last p.0 p.1 rows (λ q h. (let less : q.0 < low = below q h in omega (arith, less, ascend.0))) in
    let below_next : AllBelow (p.0 + 1) (rows ++ p ∷ []) =
    λ q h. elim (Contains-push_cases rows p q h) [
      | inl before ↦ (let less : q.0 < low = below q before in omega (arith, less, ascend.0))
      | inr e ↦ (let same : p.0 ≡ q.0 = ap (λ (x : ℕ × ℕ). x.0) e in omega (arith, same))
    ] in
    ap (raised_by ps) first ∙ put_behind (p.0 + 1) ps (rows ++ p ∷ []) ascend.2 below_next ∙ append_assoc rows (p ∷ []) ps

put_into_none : (p : Tree) → IsProgram p → raised_by p.issued [] ≡ p.issued
put_into_none p is = put_behind 0 p.issued [] is.proper.ascending (λ q h. absurd (in_none q h))

-- a program with other issued numbers
abbrev pub with_issued : Issued → Tree → Tree
with_issued issued p = record { issued = issued; body = p.body; finals = p.finals }

abbrev empty : Tree
empty = record { issued = []; body = done; finals = [] }

empty_is : IsProgram empty
unfolding shape
empty_is = record { proper = record { ascending = tt; numbers = All-nil IsProperPair; body = tt; finals = All-nil IsVariable }; shape = refl }

-- of two programs, the one whose numbers the other's raise, and the other
raised_own : (p q : Tree) → IsProgram p → IsProgram q → IsProgram (with_issued (raised_by q.issued p.issued) p)
raised_own p q is_p is_q =
    (one_side_spelled empty p q p (with_issued (raised_by q.issued p.issued) p) empty_is is_p is_q (inl refl)
    (ap (raised_by q.issued) (sym (put_into_none p is_p))) refl (IsPermutation-refl p.finals)).0

raised_other : (p q : Tree) → IsProgram p → IsProgram q → IsProgram (with_issued (raised_by q.issued p.issued) q)
raised_other p q is_p is_q =
    (one_side_spelled p q empty q (with_issued (raised_by q.issued p.issued) q) is_p is_q empty_is (inl refl) refl refl (IsPermutation-refl q.finals)).0

all_raise : (p : Tree) (vs : List Tree) → IsProgram p → AllByRecursion IsProgram vs → IsProgram (with_issued (issued_of_all p vs) p)
all_raise p [] is all = is
all_raise p (v ∷ vs) is all = all_raise (with_issued (raised_by v.issued p.issued) p) vs (raised_own p v is all.0) all.1

variant_raised : (base : Tree) (vs : List Tree) (p : Tree) → IsProgram base → AllByRecursion IsProgram vs → Contains vs p → IsProgram (with_issued (issued_of_all base vs) p)
variant_raised base [] p is all there = absurd (in_none p there)
variant_raised base (v ∷ vs) p is all there =
    elim (in_cons v p vs there) [
      | inl e ↦ subst (λ (q : Tree). IsProgram (with_issued (issued_of_all base (v ∷ vs)) q)) e
          (all_raise (with_issued (raised_by v.issued base.issued) v) vs (raised_other base v is all.0) all.1)
      | inr later ↦ variant_raised (with_issued (raised_by v.issued base.issued) base) vs p (raised_own base v is all.0) all.1 later
    ]

-- base and each variant, with the greatest issued numbers of all
pub program_raised : (base : Tree) (vs : List Tree) (p : Tree) → IsProgram base → AllByRecursion IsProgram vs → Contains (base ∷ vs) p → IsProgram (with_issued (issued_of_all base vs) p)
program_raised base vs p is all there =
    elim (in_cons base p vs there) [
      | inl e ↦ subst (λ (q : Tree). IsProgram (with_issued (issued_of_all base vs) q)) e (all_raise base vs is all)
      | inr variant ↦ variant_raised base vs p is all variant
    ]
