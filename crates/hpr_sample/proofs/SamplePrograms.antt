-- The three of a sample are programs.
use Rattle.std.proofs.Common.{◌≡◌, ℕ, ◌+◌, ◌<◌, ◌≤◌, ◌^◌, max, nat_lt, ◌==◌, if◌then◌else◌, eqb, Bool, true, false, List, [], ◌∷◌, Some, None, All, codes, cond, refl, sym, ap, subst, ◌∙◌, arith}
use Rattle.std.proofs.lemmas.Bool.{eq-eqb, eqb-false, eqb-true, le-ltb}
use Rattle.std.proofs.lemmas.List.Elements.{All-from_recursion, recursion_from_All}
use Rattle.std.specs.List.{AllByRecursion}
use Rattle.hpr_terms.specs.declared.limits.TheConstants.{MAX_PARTS}
use Rattle.hpr_terms.specs.declared.tag.Tag.{Tag}
use Rattle.hpr_terms.specs.declared.expr.Binary.{Binary}
use Rattle.hpr_terms.specs.declared.expr.Binary.TheVariants.{Add, Mul}
use Rattle.hpr_terms.specs.declared.expr.Expr.TheVariants.{Infix}
use Rattle.hpr_terms.specs.Names.{IsVariable}
use Rattle.hpr_terms.specs.Term.{var}
use Rattle.hpr_terms.proofs.Plain.{name_is_variable}
use Rattle.hpr_syntax.specs.declared.rows.Content.TheVariants as content
use Rattle.hpr_syntax.specs.declared.shape.ShapeError.TheVariants.{TooManyParts}
use Rattle.hpr_syntax.specs.declared.tree.Stmt.TheVariants.{Assign}
use Rattle.hpr_syntax.specs.Body.{Body, part_count}
use Rattle.hpr_syntax.specs.BodyOf.{before}
use Rattle.hpr_syntax.specs.Issued.{Issued, issued_to, raised}
use Rattle.hpr_syntax.specs.Parts.{same_tag, tags_of}
use Rattle.hpr_syntax.specs.Proper.{IsProperPair}
use Rattle.hpr_syntax.specs.Shape.{IsProgram, first_repeated, first_unissued, is_unissued, is_wrong, says_large, too_many}
use Rattle.hpr_syntax.specs.Tree.{Tree}
use Rattle.hpr_syntax.proofs.IssuedLemmas.{bounds_issued, raised_greater, raised_keeps, raised_others}
use Rattle.hpr_syntax.proofs.NoRefusal.{no_refusal, shaped}
use Rattle.hpr_syntax.proofs.TagLemmas.{same_tag_is}
use Rattle.hpr_edit.specs.Changes.{from}
use Rattle.hpr_edit.specs.InPlace.{one_if, times}
use Rattle.hpr_edit.specs.Places.{joined, width}
use Rattle.hpr_edit.proofs.Tags.{all_issued, count, counted, issued_bounds, issued_in, not_issued, once}
use Rattle.hpr_sample.specs.Draws.{Drawn, draw, variable, variable_name}
use Rattle.hpr_sample.specs.Private.Making.{CanHave}
use Rattle.hpr_sample.specs.Sample.{IsSampleSize, assign, base_of, groups, sample, tag, variable_names, with_part}
use Rattle.hpr_sample.proofs.DrawnNames.{a_is_name, b_is_name, draw_below, drawn_is_name, drawn_is_variable, variable_is_name}
use Rattle.hpr_sample.proofs.MadeBodies.{IsMade, is_made, tags_from}
use Rattle.hpr_sample.proofs.OnceEach.{from_counted, none_repeated, once_from}
use Rattle.hpr_sample.proofs.OneMore.{HasMore, has_more}

few_enough : (n : ℕ) → n ≤ MAX_PARTS → too_many n ≡ None
few_enough n h = ap (λ (b : Bool). cond b (Some (TooManyParts n)) None) (le-ltb MAX_PARTS n h)

-- ---- the base

finals_are_variables : All IsVariable variable_names
finals_are_variables =
    let is = λ (n : ℕ) (h : n < 8). name_is_variable (variable_name n) (variable_is_name n h) in
    All-from_recursion IsVariable variable_names
    (is 0 (omega arith), (is 1 (omega arith), (is 2 (omega arith), (is 3 (omega arith), (is 4 (omega arith), (is 5 (omega arith), (is 6 (omega arith), (is 7 (omega arith), tt))))))))

one_author : (a n : ℕ) → a ≡ 1 → issued_to a ((1, n) ∷ []) ≡ n
one_author a n is = rw (eq-eqb 1 a (sym is)) refl

base_issued : (parts : ℕ) (t : Tag) → 1 ≤ count t (tags_from parts 1 []) → is_unissued ((1, parts) ∷ []) t ≡ false
base_issued parts t h =
    let is = from_counted parts 1 t h in
    bounds_issued ((1, parts) ∷ []) t is.above (omega (arith, is.below, one_author t.author parts is.author))

pub base_is_program : (parts words : ℕ) → IsSampleSize parts → IsProgram (base_of parts (groups parts 1 words)).made
base_is_program parts words size =
    let m : IsMade parts 1 (groups parts 1 words).made = is_made parts 1 words in
    let tags = m.tags [] in
    record {
      proper = record {
        ascending = (omega arith, size.0, tt);
        numbers = All-from_recursion IsProperPair ((1, parts) ∷ []) ((omega arith, omega (arith, size.1)), tt);
        body = m.proper (omega (arith, size.1));
        finals = finals_are_variables;
      };
      shape = shaped (base_of parts (groups parts 1 words)).made (record {
        tags = ap (first_repeated same_tag []) tags ∙ none_repeated [] (tags_from parts 1 []) (λ t h. absurd cc) (λ t. once_from parts 1 t);
        issued = ap (first_unissued ((1, parts) ∷ [])) tags ∙ all_issued ((1, parts) ∷ []) (tags_from parts 1 []) (λ t h. base_issued parts t h);
        levels = m.levels;
        expressions = m.expressions;
        variables = m.variables;
        parts = few_enough _ (omega (arith, m.count, size.1));
        names = refl;
      });
    }

-- ---- a variant

raised_pairs : (a : ℕ) (ps : Issued) → a < 2 ^ 32 → AllByRecursion IsProperPair ps → AllByRecursion IsProperPair (raised a 1 ps)
raised_pairs a [] h all = ((h, omega arith), tt)
raised_pairs a (p ∷ ps) h all = go (nat_lt a p.0) (p.0 == a) (raised_pairs a ps h all.1)
  where
    go : (b c : Bool) → AllByRecursion IsProperPair (raised a 1 ps) → AllByRecursion IsProperPair (if b then (a, 1) ∷ p ∷ ps else (if c then (a, max p.1 1) ∷ ps else p ∷ raised a 1 ps))
    go true c rest = ((h, omega arith), all)
    go false true rest = ((h, omega (arith, all.0.1)), all.1)
    go false false rest = (all.0, rest)

proper_raised : (a : ℕ) (ps : Issued) → a < 2 ^ 32 → All IsProperPair ps → All IsProperPair (raised a 1 ps)
proper_raised a ps h all = All-from_recursion IsProperPair (raised a 1 ps) (raised_pairs a ps h (recursion_from_All IsProperPair ps all))

module _ (base : Tree) (author : ℕ) (x : List ℕ) (op : Binary) (words : ℕ) (can : CanHave base author x) where
  abbrev new : Tree
  new = (with_part author x op base words).made

  abbrev place : Drawn ℕ
  place = draw (width base.body + 1) words

  abbrev left : Drawn (List ℕ)
  left = variable place.words

  abbrev right : Drawn (List ℕ)
  right = variable left.words

  pub place_within : (draw (width base.body + 1) words).made ≤ width base.body
  place_within = omega (arith, draw_below (width base.body + 1) words (omega arith))

  abbrev has : HasMore (tag author 1) x (Infix op (var left.made) (var right.made)) base.body new.body
  has = has_more (tag author 1) x (Infix op (var left.made) (var right.made)) place.made base.body place_within

  none_before : times (tag author 1) base.body ≡ 0
  none_before = not_issued base can.program (tag author 1) (omega (arith, can.new))

  once_more : (t : Tag) → times t new.body ≤ 1
  once_more t = go (same_tag (tag author 1) t) refl
    where
      go : (b : Bool) → same_tag (tag author 1) t ≡ b → times t new.body ≤ 1
      go true same =
          let own : times t base.body ≡ 0 = subst (λ (u : Tag). times u base.body ≡ 0) (same_tag_is (tag author 1) t same) none_before in
          omega (arith, has.times t, ap one_if same, own)
      go false same = omega (arith, has.times t, ap one_if same, once base can.program t)

  keeps_numbers : (a : ℕ) → issued_to a base.issued ≤ issued_to a new.issued
  keeps_numbers a = go (eqb a author) refl
    where
      go : (b : Bool) → eqb a author ≡ b → issued_to a base.issued ≤ issued_to a new.issued
      go true same =
          let is : a ≡ author = eqb-true a author same in
          let none : issued_to a base.issued ≡ 0 = ap (λ (n : ℕ). issued_to n base.issued) is ∙ can.new in
          omega (arith, none)
      go false same = omega (arith, raised_others author 1 base.issued a (eqb-false a author same))

  own_number : issued_to author new.issued ≡ 1
  own_number = raised_greater author 1 base.issued can.program.proper.ascending ∙ omega (arith, can.new)

  issued_more : (t : Tag) → 1 ≤ times t new.body → is_unissued new.issued t ≡ false
  issued_more t h = go (same_tag (tag author 1) t) refl
    where
      go : (b : Bool) → same_tag (tag author 1) t ≡ b → is_unissued new.issued t ≡ false
      go true same =
          let P : Tag → Type 0 = λ u. is_unissued new.issued u ≡ false in
          subst P (same_tag_is (tag author 1) t same) (bounds_issued new.issued (tag author 1) (omega arith) (omega (arith, own_number)))
      go false same =
          let bounds = issued_bounds base.issued t (issued_in base can.program t (omega (arith, has.times t, ap one_if same, h))) in
          bounds_issued new.issued t bounds.0 (omega (arith, bounds.1, keeps_numbers t.author))

  -- the new part assigns to a plain name, and its expression names plain ones
  names_none : is_wrong (content.Assign x (Infix op (var left.made) (var right.made))) ≡ false
  names_none = rw (can.name, drawn_is_name place.words, drawn_is_name left.words) refl

  pub variant_is_program : IsProgram new
  variant_is_program =
      let old = no_refusal base can.program.shape in
      let is_variable : IsVariable x = name_is_variable x can.name in
      record {
        proper = record {
          ascending = raised_keeps author 1 base.issued (omega arith) can.program.proper.ascending;
          numbers = proper_raised author base.issued can.number can.program.proper.numbers;
          body = has.proper (can.number, omega arith) is_variable (drawn_is_variable place.words, drawn_is_variable left.words) can.program.proper.body;
          finals = All-from_recursion IsVariable (x ∷ base.finals) (is_variable, recursion_from_All IsVariable base.finals can.program.proper.finals);
        };
        shape = shaped new (record {
          tags = none_repeated [] (tags_of new.body []) (λ t h. absurd cc) (λ t. omega (arith, counted t new.body [], once_more t));
          issued = all_issued new.issued (tags_of new.body []) (λ t h. issued_more t (omega (arith, h, counted t new.body [])));
          levels = has.levels 63 ∙ old.levels;
          expressions = has.says says_large refl ∙ old.expressions;
          variables = has.says is_wrong names_none ∙ old.variables;
          parts = few_enough _ (omega (arith, has.count, can.room));
          names = can.names;
        });
      }

-- a variant whose parts are drawn one by one
module _ (base : Tree) (author : ℕ) (x : List ℕ) (op : Binary) (words : ℕ) (p w1 l w2 r w3 : ℕ)
    (place : draw (width base.body + 1) words ≡ record { made = p; words = w1 }) (left : draw 8 w1 ≡ record { made = l; words = w2 })
    (right : draw 8 w2 ≡ record { made = r; words = w3 }) where
  left_is : draw 8 (draw (width base.body + 1) words).words ≡ record { made = l; words = w2 }
  left_is = ap (λ (d : Drawn ℕ). draw 8 d.words) place ∙ left

  right_is : draw 8 (draw 8 (draw (width base.body + 1) words).words).words ≡ record { made = r; words = w3 }
  right_is = ap (λ (d : Drawn ℕ). draw 8 d.words) left_is ∙ right

  pub drawn_variant : (issued : Issued) (body : Body) (finals : List (List ℕ)) → issued ≡ raised author 1 base.issued
      → body ≡ from p (before (Assign (tag author 1) x (Infix op (var (variable_name l)) (var (variable_name r))))) base.body → finals ≡ x ∷ base.finals
      → with_part author x op base words ≡ record { made = record { issued = issued; body = body; finals = finals }; words = w3 }
  drawn_variant issued body finals issued_is body_is finals_is =
      (λ i. record {
        made = record {
          issued = raised author 1 base.issued;
          body = from (place i).made (joined (assign (tag author 1) x (Infix op (var (variable_name (left_is i).made)) (var (variable_name (right_is i).made))))) base.body;
          finals = x ∷ base.finals;
        };
        words = (right_is i).words;
      })
      ∙ (λ i. record { made = record { issued = sym issued_is i; body = sym body_is i; finals = sym finals_is i }; words = w3 })

  pub drawn_program : CanHave base author x → (issued : Issued) (body : Body) (finals : List (List ℕ)) → issued ≡ raised author 1 base.issued
      → body ≡ from p (before (Assign (tag author 1) x (Infix op (var (variable_name l)) (var (variable_name r))))) base.body → finals ≡ x ∷ base.finals
      → IsProgram (record { issued = issued; body = body; finals = finals })
  drawn_program can issued body finals issued_is body_is finals_is =
      subst (λ (d : Drawn Tree). IsProgram d.made) (drawn_variant issued body finals issued_is body_is finals_is) (variant_is_program base author x op words can)

-- ---- the sample

size_is_count : (parts words : ℕ) → part_count (groups parts 1 words).made ≡ parts
size_is_count parts words = (is_made parts 1 words).count

pub a_can : (parts words : ℕ) → IsSampleSize parts → CanHave (base_of parts (groups parts 1 words)).made 2 (codes "a")
a_can parts words size = record {
  program = base_is_program parts words size;
  number = omega arith;
  new = refl;
  name = a_is_name;
  names = refl;
  room = omega (arith, size_is_count parts words, size.1);
}

pub b_can : (parts words : ℕ) → IsSampleSize parts → CanHave (base_of parts (groups parts 1 words)).made 3 (codes "b")
b_can parts words size = record {
  program = base_is_program parts words size;
  number = omega arith;
  new = refl;
  name = b_is_name;
  names = refl;
  room = omega (arith, size_is_count parts words, size.1);
}

pub record IsSample (seed parts : ℕ) : Type 0 where
  pub base : IsProgram (sample seed parts).base
  pub a : IsProgram (sample seed parts).a
  pub b : IsProgram (sample seed parts).b

pub is_sample : (seed parts : ℕ) → IsSampleSize parts → IsSample seed parts
unfolding sample
is_sample seed parts size =
    let base = base_of parts (groups parts 1 seed) in
    let a = with_part 2 (codes "a") Add base.made base.words in
    record {
      base = base_is_program parts seed size;
      a = variant_is_program base.made 2 (codes "a") Add base.words (a_can parts seed size);
      b = variant_is_program base.made 3 (codes "b") Mul a.words (b_can parts seed size);
    }
