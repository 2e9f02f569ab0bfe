-- The sample: a base and two variants, made from the words of a seed.
--
-- tag author serial           == the tag of the author's part of this serial
-- assign t x e                == a block of the one part `x := e`
-- assignment serial words     == `V := V + K;`, drawn from left to right, with K below 100; its part has this
--                                serial
-- conditional serial words    == `if V < K then W := V + 1; else W := L; fi`, the predicate's variable twice
--                                and W twice
-- turn serial w v             == `W := W + V; c := c + 1;`, a turn of the loop
-- repetition serial words     == `c := 0; while c < K do W := W + V; c := c + 1; od`, with K below 10 and W
--                                three times
-- followed_by group rest      == the group, and then the rest, which is drawn behind it
-- by_kind k x y z             == x for the kind 0, y for 1 and z for 2
-- assignments n serial words  == n assignments
-- groups left serial words    == a top block of `left` parts: groups of a kind that is drawn while four parts
--                                or more are left, and then assignments; the first part has this serial
-- variable_names              == `v0` to `v7`
-- base_of parts body          == the base of this body, of so many parts
-- with_part author x op base words == the base, and in its top block at a place that is drawn the author's
--                                     part `x := V op V;`; `end` names x first
-- Sample                      == a base and its variants A and B
-- sample seed parts           == the base of so many parts, A with a part `a := V + V;` more and B with `b :=
--                                V * V;` more, drawn in this order
-- IsSampleSize parts          == there is a part, and a program may have two parts more
use Rattle.std.specs.Prelude.{◌≤◌, ℕ, zero, suc, ◌+◌, List, [], ◌∷◌, map, codes}
use Rattle.hpr_terms.specs.declared.limits.TheConstants.{MAX_PARTS}
use Rattle.hpr_terms.specs.declared.tag.Tag.{Tag}
use Rattle.hpr_terms.specs.declared.expr.Binary.{Binary}
use Rattle.hpr_terms.specs.declared.expr.Binary.TheVariants.{Add, Less, Mul}
use Rattle.hpr_terms.specs.declared.expr.Expr.{Expr}
use Rattle.hpr_terms.specs.declared.expr.Expr.TheVariants.{Infix, Num}
use Rattle.hpr_terms.specs.Term.{num, var}
use Rattle.hpr_syntax.specs.Action.{assigns}
use Rattle.hpr_syntax.specs.Body.{Body, done, action, branch, loop}
use Rattle.hpr_syntax.specs.Issued.{raised}
use Rattle.hpr_syntax.specs.Tree.{Tree}
use Rattle.hpr_edit.specs.Changes.{from}
use Rattle.hpr_edit.specs.Places.{joined, width}
use Rattle.hpr_sample.specs.Draws.{Drawn, draw, variable, variable_name}

abbrev pub tag : ℕ → ℕ → Tag
tag author serial = record { author = author; serial = serial }

abbrev pub assign : Tag → List ℕ → Expr → Body
assign t x e = action t (assigns x e) done

-- ---- the groups of the base, whose parts are author 1's

abbrev pub assignment : ℕ → ℕ → Drawn Body
assignment serial words =
    let target = variable words in
    let operand = variable target.words in
    let k = draw 100 operand.words in
    record {
      made = assign (tag 1 serial) target.made (Infix Add (var operand.made) (num k.made));
      words = k.words;
    }

abbrev pub conditional : ℕ → ℕ → Drawn Body
conditional serial words =
    let tested = variable words in
    let k = draw 100 tested.words in
    let target = variable k.words in
    let l = draw 100 target.words in
    record {
      made = branch (tag 1 serial) (Infix Less (var tested.made) (num k.made))
          (assign (tag 1 (serial + 1)) target.made (Infix Add (var tested.made) (num 1)))
          (assign (tag 1 (serial + 2)) target.made (Num l.made)) done;
      words = l.words;
    }

abbrev pub turn : ℕ → (target operand : List ℕ) → Body
turn serial target operand =
    joined (assign (tag 1 serial) target (Infix Add (var target) (var operand)))
    (assign (tag 1 (serial + 1)) (codes "c") (Infix Add (var (codes "c")) (num 1)))

abbrev pub repetition : ℕ → ℕ → Drawn Body
repetition serial words =
    let c = codes "c" in
    let k = draw 10 words in
    let target = variable k.words in
    let operand = variable target.words in
    record {
      made = joined (assign (tag 1 serial) c (Num 0))
          (loop (tag 1 (serial + 1)) (Infix Less (var c) (num k.made)) (turn (serial + 2) target.made operand.made) done);
      words = operand.words;
    }

abbrev pub followed_by : Drawn Body → (ℕ → Drawn Body) → Drawn Body
followed_by group rest = let behind = rest group.words in record { made = joined group.made behind.made; words = behind.words }

abbrev pub by_kind : {X : Type 0} → ℕ → X → X → X → X
by_kind zero x y z = x
by_kind (suc zero) x y z = y
by_kind (suc (suc k)) x y z = z

unfoldable pub assignments : ℕ → ℕ → ℕ → Drawn Body
assignments zero serial words = record { made = done; words = words }
assignments (suc n) serial words = followed_by (assignment serial words) (assignments n (serial + 1))

unfoldable pub groups : ℕ → ℕ → ℕ → Drawn Body
groups (suc (suc (suc (suc left)))) serial words =
    let kind = draw 3 words in
    by_kind kind.made
    (followed_by (assignment serial kind.words) (groups (suc (suc (suc left))) (serial + 1)))
    (followed_by (conditional serial kind.words) (groups (suc left) (serial + 3)))
    (followed_by (repetition serial kind.words) (groups left (serial + 4)))
groups left serial words = assignments left serial words

-- ---- the programs

abbrev pub variable_names : List (List ℕ)
variable_names = map variable_name (0 ∷ 1 ∷ 2 ∷ 3 ∷ 4 ∷ 5 ∷ 6 ∷ 7 ∷ [])

abbrev pub base_of : ℕ → Drawn Body → Drawn Tree
base_of parts body = record {
  made = record {
    issued = (1, parts) ∷ [];
    body = body.made;
    finals = variable_names;
  };
  words = body.words;
}

abbrev pub with_part : ℕ → List ℕ → Binary → Tree → ℕ → Drawn Tree
with_part author x op base words =
    let place = draw (width base.body + 1) words in
    let left = variable place.words in
    let right = variable left.words in
    record {
      made = record {
        issued = raised author 1 base.issued;
        body = from place.made (joined (assign (tag author 1) x (Infix op (var left.made) (var right.made)))) base.body;
        finals = x ∷ base.finals;
      };
      words = right.words;
    }

pub record Sample : Type 0 where
  pub base : Tree
  pub a : Tree
  pub b : Tree

unfoldable pub sample : ℕ → ℕ → Sample
sample seed parts =
    let base = base_of parts (groups parts 1 seed) in
    let a = with_part 2 (codes "a") Add base.made base.words in
    let b = with_part 3 (codes "b") Mul base.made a.words in
    record { base = base.made; a = a.made; b = b.made }

abbrev pub IsSampleSize : ℕ → Type 0
IsSampleSize parts = (1 ≤ parts) × (parts + 2 ≤ MAX_PARTS)
