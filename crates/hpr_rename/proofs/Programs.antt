-- A program whose tags are replaced one to one is a program, where the issued numbers allow them: each test says of it what it says of the program.
use Rattle.std.proofs.Common.{◌≡◌, ℕ, zero, suc, ◌+◌, ◌<◌, ◌≤◌, ◌^◌, Bool, true, false, ◌||◌, eqb, List, [], ◌∷◌, map, Option, Some, None, Contains, refl, sym, ap, subst, ◌∙◌, inl, inr, arith, if◌then◌else◌}
use Rattle.std.specs.List.{AllByRecursion, list_any}
use Rattle.std.specs.Option.{option_map, option_or}
use Rattle.std.proofs.lemmas.Bool.{eqb-true}
use Rattle.std.proofs.lemmas.List.Elements.{recursion_from_All}
use Rattle.hpr_terms.specs.declared.limits.TheConstants.{MAX_LEVELS}
use Rattle.hpr_terms.specs.declared.tag.Tag.{Tag}
use Rattle.hpr_terms.proofs.Facts.{unless, in_none, in_cons, in_here, in_later}
use Rattle.hpr_syntax.specs.declared.rows.Content.{Content}
use Rattle.hpr_syntax.specs.declared.rows.Content.TheVariants.{If, While}
use Rattle.hpr_syntax.specs.Action.{assigns, writes, stores}
use Rattle.hpr_syntax.specs.Body.{Body, done, action, branch, loop, part_count}
use Rattle.hpr_syntax.specs.Issued.{Issued, issued_to}
use Rattle.hpr_syntax.specs.Parts.{same_tag, tags_of}
use Rattle.hpr_syntax.specs.Proper.{IsProperTag, IsProperBody, IsProperPair}
use Rattle.hpr_syntax.specs.Rows.{content_by}
use Rattle.hpr_syntax.specs.Shape.{IsProgram, first_repeated, first_unissued, is_unissued, first_deep, says_large, is_wrong, first_where, too_many}
use Rattle.hpr_syntax.specs.Skeleton.{at, StandsIn, skeleton}
use Rattle.hpr_syntax.specs.Tree.{Tree}
use Rattle.hpr_syntax.proofs.IssuedLemmas.{bounds_issued}
use Rattle.hpr_syntax.proofs.NoRefusal.{no_refusal, shaped}
use Rattle.hpr_syntax.proofs.TagLemmas.{same_tag_is, same_tag_itself}
use Rattle.hpr_rename.specs.Renamed.{body_with, tree_with}
use Rattle.hpr_rename.specs.Replaced.{AreAllowed, IsOneToOne, IsTagOf}
use Rattle.hpr_rename.proofs.Tags.{listed}

-- an author with an issued number is in range, and so is the number
range_if : (b : Bool) (a : ℕ) (p : ℕ × ℕ) (rest : ℕ) → eqb p.0 a ≡ b → IsProperPair p → (1 ≤ rest → (a < 2 ^ 32) × (rest < 2 ^ 32))
    → 1 ≤ (if b then p.1 else rest) → (a < 2 ^ 32) × ((if b then p.1 else rest) < 2 ^ 32)
range_if true a p rest e proper later one = (subst (λ n. n < 2 ^ 32) (eqb-true p.0 a e) proper.0, proper.1)
range_if false a p rest e proper later one = later one

range_of : (a : ℕ) (issued : Issued) → AllByRecursion IsProperPair issued → 1 ≤ issued_to a issued → (a < 2 ^ 32) × (issued_to a issued < 2 ^ 32)
range_of a [] all one = absurd (omega (arith, one))
range_of a (p ∷ ps) all one = range_if (eqb p.0 a) a p (issued_to a ps) refl all.0 (range_of a ps all.1) one

both_or_none : (a b : Bool) → (a ≡ true → b ≡ true) → (b ≡ true → a ≡ true) → a ≡ b
both_or_none true b f g = sym (f refl)
both_or_none false true f g = g refl
both_or_none false false f g = refl

module _ (f : Tag → Tag) where
  abbrev found : Option Tag → Option Tag
  found o = option_map f o

  found_if : (b : Bool) (t : Tag) (o : Option Tag) → (if b then Some (f t) else found o) ≡ found (if b then Some t else o)
  found_if true t o = refl
  found_if false t o = refl

  found_or : (o p : Option Tag) → option_or (found o) (found p) ≡ found (option_or o p)
  found_or None p = refl
  found_or (Some t) p = refl

  found_two : (o p : Option Tag) {o' p' : Option Tag} → o' ≡ found o → p' ≡ found p → option_or o' p' ≡ found (option_or o p)
  found_two o p e g = (λ i. option_or (e i) (g i)) ∙ found_or o p

  -- the tests that ask for no tag
  where_with : (test : Content → Bool) (b : Body) → first_where test (body_with f b) ≡ found (first_where test b)
  where_with test done = refl
  where_with test (action t d rest) =
      ap (λ (o : Option Tag). if test (content_by d) then Some (f t) else o) (where_with test rest) ∙ found_if (test (content_by d)) t (first_where test rest)
  where_with test (branch t e a b rest) =
      ap (λ (o : Option Tag). if test (If e) then Some (f t) else o) (found_two (first_where test a) (option_or (first_where test b) (first_where test rest)) (where_with test a)
      (found_two (first_where test b) (first_where test rest) (where_with test b) (where_with test rest)))
      ∙ found_if (test (If e)) t (option_or (first_where test a) (option_or (first_where test b) (first_where test rest)))
  where_with test (loop t e b rest) =
      ap (λ (o : Option Tag). if test (While e) then Some (f t) else o) (found_two (first_where test b) (first_where test rest) (where_with test b) (where_with test rest))
      ∙ found_if (test (While e)) t (option_or (first_where test b) (first_where test rest))

  deep_with : (n : ℕ) (b : Body) → first_deep n (body_with f b) ≡ found (first_deep n b)
  deep_with n done = refl
  deep_with zero (action t d rest) = refl
  deep_with zero (branch t e a b rest) = refl
  deep_with zero (loop t e b rest) = refl
  deep_with (suc n) (action t d rest) = deep_with (suc n) rest
  deep_with (suc n) (branch t e a b rest) =
      found_two (first_deep n a) (option_or (first_deep n b) (first_deep (suc n) rest)) (deep_with n a)
      (found_two (first_deep n b) (first_deep (suc n) rest) (deep_with n b) (deep_with (suc n) rest))
  deep_with (suc n) (loop t e b rest) = found_two (first_deep n b) (first_deep (suc n) rest) (deep_with n b) (deep_with (suc n) rest)

  count_with : (b : Body) → part_count (body_with f b) ≡ part_count b
  count_with done = refl
  count_with (action t d rest) = ap (λ n. n + 1) (count_with rest)
  count_with (branch t e a b rest) = omega (arith, count_with a, count_with b, count_with rest)
  count_with (loop t e b rest) = omega (arith, count_with b, count_with rest)

  pub tags_with : (b : Body) (after : List Tag) → tags_of (body_with f b) (map f after) ≡ map f (tags_of b after)
  tags_with done after = refl
  tags_with (action t d rest) after = ap (λ (ts : List Tag). f t ∷ ts) (tags_with rest after)
  tags_with (branch t e a b rest) after =
      ap (λ (ts : List Tag). f t ∷ ts)
      (ap (λ (ts : List Tag). tags_of (body_with f a) (tags_of (body_with f b) ts)) (tags_with rest after)
      ∙ ap (tags_of (body_with f a)) (tags_with b (tags_of rest after))
      ∙ tags_with a (tags_of b (tags_of rest after)))
  tags_with (loop t e b rest) after =
      ap (λ (ts : List Tag). f t ∷ ts) (ap (tags_of (body_with f b)) (tags_with rest after) ∙ tags_with b (tags_of rest after))

  -- the tags were issued
  issued_with : (issued : Issued) (b : Body) (after : List Tag) → ((u : Tag) → StandsIn (skeleton b) (at u) → is_unissued issued (f u) ≡ false)
      → first_unissued issued after ≡ None → first_unissued issued (tags_of (body_with f b) after) ≡ None
  issued_with issued done after all none = none
  issued_with issued (action t d rest) after all none =
      unless (is_unissued issued (f t)) (f t) (first_unissued issued (tags_of (body_with f rest) after)) (all t (inl refl))
      (issued_with issued rest after (λ u h. all u (inr h)) none)
  issued_with issued (branch t e a b rest) after all none =
      let behind = tags_of (body_with f rest) after in
      unless (is_unissued issued (f t)) (f t) (first_unissued issued (tags_of (body_with f a) (tags_of (body_with f b) behind))) (all t (inl refl))
      (issued_with issued a (tags_of (body_with f b) behind) (λ u h. all u (inr (inl h)))
      (issued_with issued b behind (λ u h. all u (inr (inr (inl h))))
      (issued_with issued rest after (λ u h. all u (inr (inr (inr h)))) none)))
  issued_with issued (loop t e b rest) after all none =
      let behind = tags_of (body_with f rest) after in
      unless (is_unissued issued (f t)) (f t) (first_unissued issued (tags_of (body_with f b) behind)) (all t (inl refl))
      (issued_with issued b behind (λ u h. all u (inr (inl h))) (issued_with issued rest after (λ u h. all u (inr (inr h))) none))

  -- names and numbers
  proper_with : (b : Body) → ((u : Tag) → StandsIn (skeleton b) (at u) → IsProperTag (f u)) → IsProperBody b → IsProperBody (body_with f b)
  proper_with done all h = h
  proper_with (action t (assigns x e) rest) all h = (all t (inl refl), h.1, h.2, proper_with rest (λ u g. all u (inr g)) h.3)
  proper_with (action t (writes x e) rest) all h = (all t (inl refl), h.1, h.2, proper_with rest (λ u g. all u (inr g)) h.3)
  proper_with (action t (stores x i e) rest) all h = (all t (inl refl), h.1, h.2, h.3, proper_with rest (λ u g. all u (inr g)) h.4)
  proper_with (branch t e a b rest) all h = (
    all t (inl refl),
    h.1,
    proper_with a (λ u g. all u (inr (inl g))) h.2,
    proper_with b (λ u g. all u (inr (inr (inl g)))) h.3,
    proper_with rest (λ u g. all u (inr (inr (inr g)))) h.4,
  )
  proper_with (loop t e b rest) all h = (
    all t (inl refl),
    h.1,
    proper_with b (λ u g. all u (inr (inl g))) h.2,
    proper_with rest (λ u g. all u (inr (inr g))) h.3,
  )

  -- no tag stands twice
  same_with : (t u : Tag) → (f t ≡ f u → t ≡ u) → same_tag (f t) (f u) ≡ same_tag t u
  same_with t u once =
      both_or_none (same_tag (f t) (f u)) (same_tag t u)
      (λ h. subst (λ v. same_tag t v ≡ true) (once (same_tag_is (f t) (f u) h)) (same_tag_itself t))
      (λ h. subst (λ v. same_tag (f t) (f v) ≡ true) (same_tag_is t u h) (same_tag_itself (f t)))

  module _ (tree : Tree) (once : IsOneToOne f tree) where
    any_with : (t : Tag) → IsTagOf tree t → (earlier : List Tag) → ((u : Tag) → Contains earlier u → IsTagOf tree u)
        → list_any (same_tag (f t)) (map f earlier) ≡ list_any (same_tag t) earlier
    any_with t own [] those = refl
    any_with t own (u ∷ earlier) those =
        let p = same_with t u (once t u own (those u (in_here u earlier))) in
        let q = any_with t own earlier (λ v h. those v (in_later u v earlier h)) in
        (λ i. p i || q i)

    repeated_with : (earlier ts : List Tag) → ((u : Tag) → Contains earlier u → IsTagOf tree u) → ((u : Tag) → Contains ts u → IsTagOf tree u)
        → first_repeated same_tag (map f earlier) (map f ts) ≡ found (first_repeated same_tag earlier ts)
    repeated_with earlier [] those these = refl
    repeated_with earlier (t ∷ ts) those these =
        let own = these t (in_here t ts) in
        let p = any_with t own earlier those in
        let q =
        repeated_with (t ∷ earlier) ts
        (λ u h. elim (in_cons t u earlier h) [ inl same ↦ subst (IsTagOf tree) same own | inr later ↦ those u later ])
        (λ u h. these u (in_later t u ts h)) in
        (λ i. if p i then Some (f t) else q i) ∙ found_if (list_any (same_tag t) earlier) t (first_repeated same_tag (t ∷ earlier) ts)

  pub renamed_program : (issued : Issued) (t : Tree) → IsOneToOne f t → AreAllowed f issued t → IsProgram t → IsProgram (tree_with f issued t)
  renamed_program issued t once allowed prog =
      let n = no_refusal t prog.shape in
      let ranges = recursion_from_All IsProperPair issued allowed.numbers.1 in
      let tag_in : (u : Tag) → StandsIn (skeleton t.body) (at u) → IsProperTag (f u) =
      λ u h. let (one, most) = allowed.tags u (listed t.body [] u h) in
      let (author, number) = range_of (f u).author issued ranges (omega (arith, one, most)) in
      (author, omega (arith, most, number)) in
      record {
        proper = record {
          ascending = allowed.numbers.0;
          numbers = allowed.numbers.1;
          body = proper_with t.body tag_in prog.proper.body;
          finals = prog.proper.finals;
        };
        shape = shaped (tree_with f issued t) (record {
          tags =
              ap (first_repeated same_tag []) (tags_with t.body [])
              ∙ repeated_with t once [] (tags_of t.body []) (λ u h. absurd (in_none u h)) (λ u h. h)
              ∙ ap found n.tags;
          issued = issued_with issued t.body [] (λ u h. let (one, most) = allowed.tags u (listed t.body [] u h) in bounds_issued issued (f u) one most) refl;
          levels = deep_with MAX_LEVELS t.body ∙ ap found n.levels;
          expressions = where_with says_large t.body ∙ ap found n.expressions;
          variables = where_with is_wrong t.body ∙ ap found n.variables;
          parts = ap too_many (count_with t.body) ∙ n.parts;
          names = n.names;
        });
      }
