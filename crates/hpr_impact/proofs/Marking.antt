-- Bytes with marks are lines with marks.
use Rattle.std.proofs.Common.{◌≡◌, ◌≢◌, ℕ, ◌+◌, ◌↔◌, ◌⊎◌, inl, inr, Bool, true, false, eqb, if◌then◌else◌, List, [], ◌∷◌, ◌++◌, slice_index_or, refl, sym, ap, subst}
use Rattle.std.proofs.lemmas.Bool.Decides.{eqb_tells}
use Rattle.hpr_search.specs.Marks.{IsMarked}
use Rattle.hpr_graph.proofs.Lists.{in_none, in_cons}
use Rattle.hpr_impact.specs.Lines.{AreMarkedLines, none, last, next, IsMark, IsOneLine, line_mark}
use Rattle.hpr_impact.specs.Private.Marking.{marked_from}

mark_is : (b : Bool) → IsMark (b ≡ true) (line_mark b)
mark_is true = inl (refl, refl)
mark_is false = inr (λ h. cc, refl)

one_none : IsOneLine []
one_none h = in_none 10 h

one_more : (b : ℕ) (line : List ℕ) → b ≢ 10 → IsOneLine line → IsOneLine (b ∷ line)
one_more b line other one h = elim (in_cons b 10 line h) [ inl e ↦ other e | inr later ↦ one later ]

-- bytes of which the first doesn't begin a line: a whole line, or the end of one and further lines
record Broken (marks : List Bool) (n : ℕ) (bytes out : List ℕ) : Type 0 where
  line : List ℕ
  rest : List ℕ
  text : List ℕ
  split : bytes ≡ line ++ 10 ∷ rest
  one : IsOneLine line
  lines : AreMarkedLines (IsMarked marks) (n + 1) rest text
  is : out ≡ line ++ 10 ∷ text

abbrev Goes : List Bool → ℕ → List ℕ → List ℕ → Type 0
Goes marks n bytes out = (IsOneLine bytes × (out ≡ bytes)) ⊎ Broken marks n bytes out

module _ (marks : List Bool) where
  goes_more : (n b : ℕ) (bs out : List ℕ) → b ≢ 10 → Goes marks n bs out → Goes marks n (b ∷ bs) (b ∷ out)
  goes_more n b bs out other (inl (one, is)) = inl (one_more b bs other one, ap (λ (xs : List ℕ). b ∷ xs) is)
  goes_more n b bs out other (inr r) =
      inr (record {
        line = b ∷ r.line;
        rest = r.rest;
        text = r.text;
        split = ap (λ (xs : List ℕ). b ∷ xs) r.split;
        one = one_more b r.line other r.one;
        lines = r.lines;
        is = ap (λ (xs : List ℕ). b ∷ xs) r.is;
      })

  goes_on : (n b : ℕ) (bs : List ℕ) → ((m : ℕ) → AreMarkedLines (IsMarked marks) m bs (marked_from marks true m bs)) → ((m : ℕ) → Goes marks m bs (marked_from marks false m bs))
      → Goes marks n (b ∷ bs) (b ∷ marked_from marks (eqb b 10) (if eqb b 10 then n + 1 else n) bs)
  goes_on n b bs lines within = elim (eqb_tells b 10) [
    | inl (test, e) ↦
        subst (λ (t : Bool). Goes marks n (b ∷ bs) (b ∷ marked_from marks t (if t then n + 1 else n) bs)) (sym test)
        (inr (record {
          line = [];
          rest = bs;
          text = marked_from marks true (n + 1) bs;
          split = ap (λ (x : ℕ). x ∷ bs) e;
          one = one_none;
          lines = lines (n + 1);
          is = ap (λ (x : ℕ). x ∷ marked_from marks true (n + 1) bs) e;
        }))
    | inr (test, ne) ↦
        subst (λ (t : Bool). Goes marks n (b ∷ bs) (b ∷ marked_from marks t (if t then n + 1 else n) bs)) (sym test) (goes_more n b bs (marked_from marks false n bs) ne (within n))
  ]

  begins : (n b : ℕ) (bs out : List ℕ) → Goes marks n (b ∷ bs) out → AreMarkedLines (IsMarked marks) n (b ∷ bs) (line_mark (slice_index_or marks n false) ++ out)
  begins n b bs out (inl (one, is)) =
      subst (λ (text : List ℕ). AreMarkedLines (IsMarked marks) n (b ∷ bs) (line_mark (slice_index_or marks n false) ++ text)) (sym is)
      (last (line_mark (slice_index_or marks n false)) (b ∷ bs) (mark_is (slice_index_or marks n false)) one (λ e. cc))
  begins n b bs out (inr r) =
      subst (λ (bytes : List ℕ). AreMarkedLines (IsMarked marks) n bytes (line_mark (slice_index_or marks n false) ++ out)) (sym r.split)
      (subst (λ (text : List ℕ). AreMarkedLines (IsMarked marks) n (r.line ++ 10 ∷ r.rest) (line_mark (slice_index_or marks n false) ++ text)) (sym r.is)
      (next (line_mark (slice_index_or marks n false)) r.line (mark_is (slice_index_or marks n false)) r.one r.lines))

  both : (bytes : List ℕ) → ((n : ℕ) → AreMarkedLines (IsMarked marks) n bytes (marked_from marks true n bytes)) × ((n : ℕ) → Goes marks n bytes (marked_from marks false n bytes))
  both [] = (λ n. none, λ n. inl (one_none, refl))
  both (b ∷ bs) =
      let (lines, within) = both bs in
      (λ n. begins n b bs _ (goes_on n b bs lines within), λ n. goes_on n b bs lines within)

  pub lines_marked : (bytes : List ℕ) → AreMarkedLines (IsMarked marks) 1 bytes (marked_from marks true 1 bytes)
  lines_marked bytes = (both bytes).0 1

mark_same : (P Q : Type 0) (mark : List ℕ) → P ↔ Q → IsMark P mark → IsMark Q mark
mark_same P Q mark f (inl (p, is)) = inl (f.0 p, is)
mark_same P Q mark f (inr (n, is)) = inr (λ q. n (f.1 q), is)

-- where the same lines are marked the text is the same
pub marks_same : (M N : ℕ → Type 0) → ((n : ℕ) → M n ↔ N n) → (n : ℕ) (bytes text : List ℕ) → AreMarkedLines M n bytes text → AreMarkedLines N n bytes text
marks_same M N f n _ _ none = none
marks_same M N f n _ _ (last mark line is one full) = last mark line (mark_same (M n) (N n) mark (f n) is) one full
marks_same M N f n _ _ (next mark line {bytes = bytes} {text = text} is one lines) = next mark line (mark_same (M n) (N n) mark (f n) is) one (marks_same M N f (n + 1) bytes text lines)
