-- What the body of a base is: its tags in preorder, its parts, its levels, what they say.
use Rattle.std.proofs.Common.{◌≡◌, ℕ, zero, suc, ◌+◌, ◌≤◌, ◌^◌, List, ◌∷◌, None, refl, ap, sym, ◌∙◌, arith}
use Rattle.hpr_terms.specs.declared.limits.TheConstants.{MAX_LEVELS}
use Rattle.hpr_terms.specs.declared.tag.Tag.{Tag}
use Rattle.hpr_syntax.specs.Body.{Body, part_count}
use Rattle.hpr_syntax.specs.Parts.{tags_of}
use Rattle.hpr_syntax.specs.Proper.{IsProperBody}
use Rattle.hpr_syntax.specs.Shape.{first_deep, first_where, is_wrong, says_large}
use Rattle.hpr_sample.specs.Draws.{Drawn, draw, variable}
use Rattle.hpr_sample.specs.Sample.{assignment, assignments, by_kind, conditional, followed_by, groups, repetition, tag}
use Rattle.hpr_sample.proofs.DrawnNames.{c_is_name, c_is_variable, draw_below, drawn_is_name, drawn_is_variable}

-- so many tags of author 1 from this serial on, and then these
abbrev pub tags_from : ℕ → ℕ → List Tag → List Tag
tags_from zero serial later = later
tags_from (suc n) serial later = tag 1 serial ∷ tags_from n (serial + 1) later

-- a block of n parts, the first of which has this serial
pub record IsMade (n serial : ℕ) (b : Body) : Type 0 where
  pub tags : (later : List Tag) → tags_of b later ≡ tags_from n serial later
  pub count : part_count b ≡ n
  pub levels : first_deep MAX_LEVELS b ≡ None
  pub expressions : first_where says_large b ≡ None
  pub variables : first_where is_wrong b ≡ None
  pub proper : serial + n ≤ 2 ^ 32 → IsProperBody b

made_assignment : (n serial words : ℕ) (rest : ℕ → Drawn Body) → ((w : ℕ) → IsMade n (serial + 1) (rest w).made) → IsMade (suc n) serial (followed_by (assignment serial words) rest).made
made_assignment n serial words rest made =
    let operand = variable (variable words).words in
    let k = draw 100 operand.words in
    let r = made k.words in
    let small = draw_below 100 operand.words (omega arith) in
    record {
      tags = λ later. ap (λ (ts : List Tag). tag 1 serial ∷ ts) (r.tags later);
      count = omega (arith, r.count);
      levels = r.levels;
      expressions = r.expressions;
      variables = rw (drawn_is_name words, drawn_is_name (variable words).words) r.variables;
      proper = λ fits. ((omega arith, omega (arith, fits)), drawn_is_variable words, (drawn_is_variable (variable words).words, omega (arith, small)), r.proper (omega (arith, fits)));
    }

made_conditional : (n serial words : ℕ) (rest : ℕ → Drawn Body) → ((w : ℕ) → IsMade n (serial + 3) (rest w).made)
    → IsMade (suc (suc (suc n))) serial (followed_by (conditional serial words) rest).made
made_conditional n serial words rest made =
    let tested = variable words in
    let k = draw 100 tested.words in
    let target = variable k.words in
    let l = draw 100 target.words in
    let r = made l.words in
    let two : serial + 2 ≡ serial + 1 + 1 = omega arith in
    let three : serial + 3 ≡ serial + 1 + 1 + 1 = omega arith in
    let small = draw_below 100 tested.words (omega arith) in
    let small_too = draw_below 100 target.words (omega arith) in
    record {
      tags = λ later. ap (λ (ts : List Tag). tag 1 serial ∷ tag 1 (serial + 1) ∷ tag 1 (serial + 2) ∷ ts) (r.tags later)
          ∙ (λ i. tag 1 serial ∷ tag 1 (serial + 1) ∷ tag 1 (two i) ∷ tags_from n (three i) later);
      count = omega (arith, r.count);
      levels = r.levels;
      expressions = r.expressions;
      variables = rw (drawn_is_name words, drawn_is_name k.words) r.variables;
      proper = λ fits. (
        (omega arith, omega (arith, fits)),
        (drawn_is_variable words, omega (arith, small)),
        ((omega arith, omega (arith, fits)), drawn_is_variable k.words, (drawn_is_variable words, omega arith), tt),
        ((omega arith, omega (arith, fits)), drawn_is_variable k.words, omega (arith, small_too), tt),
        r.proper (omega (arith, fits)),
      );
    }

made_repetition : (n serial words : ℕ) (rest : ℕ → Drawn Body) → ((w : ℕ) → IsMade n (serial + 4) (rest w).made)
    → IsMade (suc (suc (suc (suc n)))) serial (followed_by (repetition serial words) rest).made
made_repetition n serial words rest made =
    let k = draw 10 words in
    let target = variable k.words in
    let operand = variable target.words in
    let r = made operand.words in
    let two : serial + 1 + 1 ≡ serial + 2 = omega arith in
    let three : serial + 2 + 1 ≡ serial + 1 + 1 + 1 = omega arith in
    let four : serial + 4 ≡ serial + 1 + 1 + 1 + 1 = omega arith in
    let small = draw_below 10 words (omega arith) in
    record {
      tags = λ later. ap (λ (ts : List Tag). tag 1 serial ∷ tag 1 (serial + 1) ∷ tag 1 (serial + 2) ∷ tag 1 (serial + 2 + 1) ∷ ts) (r.tags later)
          ∙ (λ i. tag 1 serial ∷ tag 1 (serial + 1) ∷ tag 1 (sym two i) ∷ tag 1 (three i) ∷ tags_from n (four i) later);
      count = omega (arith, r.count);
      levels = r.levels;
      expressions = r.expressions;
      variables = rw (c_is_name, drawn_is_name k.words, drawn_is_name target.words) r.variables;
      proper = λ fits. (
        (omega arith, omega (arith, fits)),
        c_is_variable,
        omega arith,
        (
          (omega arith, omega (arith, fits)),
          (c_is_variable, omega (arith, small)),
          (
            (omega arith, omega (arith, fits)),
            drawn_is_variable k.words,
            (drawn_is_variable k.words, drawn_is_variable target.words),
            ((omega arith, omega (arith, fits)), c_is_variable, (c_is_variable, omega arith), tt),
          ),
          r.proper (omega (arith, fits)),
        ),
      );
    }

made_assignments : (n serial words : ℕ) → IsMade n serial (assignments n serial words).made
unfolding assignments
made_assignments zero serial words = record { tags = λ later. refl; count = refl; levels = refl; expressions = refl; variables = refl; proper = λ fits. tt }
made_assignments (suc n) serial words = made_assignment n serial words (assignments n (serial + 1)) (λ w. made_assignments n (serial + 1) w)

of_kind : (P : Body → Type 0) (k : ℕ) (x y z : Drawn Body) → P x.made → P y.made → P z.made → P (by_kind k x y z).made
of_kind P zero x y z p q r = p
of_kind P (suc zero) x y z p q r = q
of_kind P (suc (suc k)) x y z p q r = r

pub is_made : (n serial words : ℕ) → IsMade n serial (groups n serial words).made
unfolding groups
is_made (suc (suc (suc (suc n)))) serial words =
    let kind = draw 3 words in
    of_kind (IsMade (suc (suc (suc (suc n)))) serial) kind.made
    (followed_by (assignment serial kind.words) (groups (suc (suc (suc n))) (serial + 1)))
    (followed_by (conditional serial kind.words) (groups (suc n) (serial + 3)))
    (followed_by (repetition serial kind.words) (groups n (serial + 4)))
    (made_assignment (suc (suc (suc n))) serial kind.words (groups (suc (suc (suc n))) (serial + 1)) (λ w. is_made (suc (suc (suc n))) (serial + 1) w))
    (made_conditional (suc n) serial kind.words (groups (suc n) (serial + 3)) (λ w. is_made (suc n) (serial + 3) w))
    (made_repetition n serial kind.words (groups n (serial + 4)) (λ w. is_made n (serial + 4) w))
is_made n serial words = made_assignments n serial words
