-- The tags of a program's parts were issued.
use Rattle.std.proofs.Common.{◌≡◌, ℕ, ◌≤◌, ◌==◌, ◌||◌, nat_lt, false, inl, inr, None, List, [], sym, subst, arith}
use Rattle.std.proofs.lemmas.Bool.Decides.{nat_tests}
use Rattle.hpr_terms.specs.declared.tag.Tag.{Tag}
use Rattle.hpr_terms.proofs.Facts.{if_none}
use Rattle.hpr_syntax.specs.declared.rows.Content.{Content}
use Rattle.hpr_syntax.specs.Body.{Body, done, action, branch, loop}
use Rattle.hpr_syntax.specs.Issued.{Issued, issued_to}
use Rattle.hpr_syntax.specs.Nests.{Says}
use Rattle.hpr_syntax.specs.Parts.{tags_of}
use Rattle.hpr_syntax.specs.Shape.{IsProgram, is_unissued, first_unissued}
use Rattle.hpr_syntax.specs.Tree.{Tree}
use Rattle.hpr_syntax.proofs.NoRefusal.{no_refusal}

-- where no part is found that wasn't issued, each was
each_issued : (issued : Issued) (b : Body) (after : List Tag) → first_unissued issued (tags_of b after) ≡ None
    → (first_unissued issued after ≡ None) × ((t : Tag) (c : Content) → Says b t c → is_unissued issued t ≡ false)
each_issued issued done after none = (none, λ t c h. absurd h)
each_issued issued (action t d rest) after none =
    let (this, more) = if_none (is_unissued issued t) t (first_unissued issued (tags_of rest after)) none in
    let (last, those) = each_issued issued rest after more in
    (last, λ u c h. elim h [ inl here ↦ subst (λ (w : Tag). is_unissued issued w ≡ false) (sym here.0) this | inr later ↦ those u c later ])
each_issued issued (branch t e a b rest) after none =
    let (this, more) = if_none (is_unissued issued t) t (first_unissued issued (tags_of a (tags_of b (tags_of rest after)))) none in
    let (after_a, in_a) = each_issued issued a (tags_of b (tags_of rest after)) more in
    let (after_b, in_b) = each_issued issued b (tags_of rest after) after_a in
    let (last, those) = each_issued issued rest after after_b in (
      last,
      λ u c h. elim h [
        | inl here ↦ subst (λ (w : Tag). is_unissued issued w ≡ false) (sym here.0) this
        | inr within ↦ elim within [
          | inl x ↦ in_a u c x
          | inr behind ↦ elim behind [ inl x ↦ in_b u c x | inr x ↦ those u c x ]
        ]
      ],
    )
each_issued issued (loop t e b rest) after none =
    let (this, more) = if_none (is_unissued issued t) t (first_unissued issued (tags_of b (tags_of rest after))) none in
    let (after_b, in_b) = each_issued issued b (tags_of rest after) more in
    let (last, those) = each_issued issued rest after after_b in (
      last,
      λ u c h. elim h [
        | inl here ↦ subst (λ (w : Tag). is_unissued issued w ≡ false) (sym here.0) this
        | inr within ↦ elim within [ inl x ↦ in_b u c x | inr x ↦ those u c x ]
      ],
    )

in_range : (s n : ℕ) → ((s == 0) || nat_lt n s) ≡ false → (1 ≤ s) × (s ≤ n)
in_range s n h = (grind (arith, nat_tests), grind (arith, nat_tests))

-- the serial of a part's tag is at least 1 and at most its author's issued number
pub serial_of : (p : Tree) → IsProgram p → (t : Tag) (c : Content) → Says p.body t c → (1 ≤ t.serial) × (t.serial ≤ issued_to t.author p.issued)
serial_of p is t c says = in_range t.serial (issued_to t.author p.issued) ((each_issued p.issued p.body [] (no_refusal p is.shape).issued).1 t c says)
