-- Issued numbers behind a split are proper, and the serials of the parts of the split graph are among them.
use Rattle.std.proofs.Common.{◌≡◌, ◌≢◌, ℕ, ◌+◌, ◌<◌, ◌≤◌, ◌==◌, ◌^◌, Bool, true, false, max, nat_lt, if◌then◌else◌, inl, inr, List, [], ◌∷◌, length, map, Contains, sym, ap, ◌∙◌, subst, arith}
use Rattle.std.specs.List.{AllByRecursion}
use Rattle.std.proofs.lemmas.Bool.{eqb-false, eqb-true}
use Rattle.std.proofs.lemmas.List.Elements.{All-from_recursion, recursion_from_All}
use Rattle.hpr_terms.specs.declared.tag.Tag.{Tag}
use Rattle.hpr_terms.proofs.Facts.{in_cons, in_here, in_map, in_none}
use Rattle.hpr_syntax.specs.Issued.{Issued, IsIssued, issued_to, raised}
use Rattle.hpr_syntax.specs.Proper.{IsProperIssued, IsProperPair}
use Rattle.hpr_syntax.proofs.IssuedLemmas.{raised_greater, raised_keeps, raised_others}
use Rattle.hpr_graph.specs.declared.vertex.Vertex.{Vertex}
use Rattle.hpr_graph.specs.declared.vertex.Vertex.TheVariants.{Part}
use Rattle.hpr_graph.specs.Fits.{IsPart}
use Rattle.hpr_graph.specs.Graphs.{Graph}
use Rattle.hpr_graph.specs.Split.{AreIssuedAmong, max_serial, renamed, split_graph, split_issued, with_new_tags}
use Rattle.hpr_split.proofs.NewTags.{issued_kept, renamed_issued}
use Rattle.hpr_split.proofs.Renamed.{new_tags_length}

-- author 0 has so many more, and every other author as many as before
abbrev more_if : Bool → ℕ → Issued → Issued
more_if b n issued = if b then issued else raised 0 (issued_to 0 issued + n) issued

author_if : (b : Bool) (n : ℕ) (issued : Issued) → (n == 0) ≡ b → IsIssued issued → issued_to 0 (more_if b n issued) ≡ issued_to 0 issued + n
author_if true n issued e is = let none : n ≡ 0 = eqb-true n 0 e in omega (arith, none)
author_if false n issued e is = omega (arith, raised_greater 0 (issued_to 0 issued + n) issued is)

others_if : (b : Bool) (n : ℕ) (issued : Issued) (a : ℕ) → a ≢ 0 → issued_to a (more_if b n issued) ≡ issued_to a issued
others_if true n issued a other = λ i. issued_to a issued
others_if false n issued a other = raised_others 0 (issued_to 0 issued + n) issued a other

pub split_author : (n : ℕ) (issued : Issued) → IsIssued issued → issued_to 0 (split_issued n issued) ≡ issued_to 0 issued + n
split_author n issued is = author_if (n == 0) n issued (λ i. n == 0) is

pub split_others : (n : ℕ) (issued : Issued) (a : ℕ) → a ≢ 0 → issued_to a (split_issued n issued) ≡ issued_to a issued
split_others n issued a other = others_if (n == 0) n issued a other

-- they are proper
raised_pairs : (a n : ℕ) (ps : Issued) → a < 2 ^ 32 → n < 2 ^ 32 → AllByRecursion IsProperPair ps → AllByRecursion IsProperPair (raised a n ps)
raised_pairs a n [] low few all = ((low, few), tt)
raised_pairs a n (p ∷ ps) low few all = by (nat_lt a p.0) (p.0 == a) (raised_pairs a n ps low few all.1)
  where
    by : (b c : Bool) → AllByRecursion IsProperPair (raised a n ps) → AllByRecursion IsProperPair (if b then (a, n) ∷ p ∷ ps else if c then (a, max p.1 n) ∷ ps else p ∷ raised a n ps)
    by true c rest = ((low, few), all)
    by false true rest = ((low, omega (arith, few, all.0.1)), all.1)
    by false false rest = (all.0, rest)

proper_if : (b : Bool) (n : ℕ) (issued : Issued) → (n == 0) ≡ b → IsProperIssued issued → issued_to 0 issued + n ≤ max_serial → IsProperIssued (more_if b n issued)
proper_if true n issued e is fits = is
proper_if false n issued e is fits =
    let some : n ≢ 0 = eqb-false n 0 e in (
      raised_keeps 0 (issued_to 0 issued + n) issued (grind (arith, some)) is.0,
      All-from_recursion IsProperPair (raised 0 (issued_to 0 issued + n) issued)
          (raised_pairs 0 (issued_to 0 issued + n) issued (omega arith) (omega (arith, fits)) (recursion_from_All IsProperPair issued is.1)),
    )

pub split_proper : (n : ℕ) (issued : Issued) → IsProperIssued issued → issued_to 0 issued + n ≤ max_serial → IsProperIssued (split_issued n issued)
split_proper n issued is fits = proper_if (n == 0) n issued (λ i. n == 0) is fits

-- the serials of the split graph's parts are among them
module _ (g : Graph) (issued : Issued) (is : IsIssued issued) (serials : AreIssuedAmong g.vertex issued)
    (us : List Vertex) (parts : (v : Vertex) → Contains us v → IsPart v) (rs : List (Vertex × Tag)) (rs_is : rs ≡ with_new_tags (issued_to 0 issued) us) where
  abbrev z : ℕ
  z = issued_to 0 issued

  count : length rs ≡ length us
  count = ap (λ (qs : List (Vertex × Tag)). length qs) rs_is ∙ new_tags_length z us

  of_one : (v : Vertex) → g.vertex v → AreIssuedAmong (Contains (v ∷ [])) issued
  of_one v has t c h = elim (in_cons v (Part t c) [] h) [ inl e ↦ serials t c (subst g.vertex e has) | inr none ↦ absurd (in_none (Part t c) none) ]

  pub split_serials : AreIssuedAmong (split_graph rs g).vertex (split_issued (length rs) issued)
  split_serials t c (v, has, v_is) =
      let more : Issued = split_issued (length rs) issued in
      let author : issued_to 0 more ≡ z + length rs = split_author (length rs) issued is in
      let kept = issued_kept issued more (length rs) author (split_others (length rs) issued) in
      renamed_issued z us parts issued more (author ∙ ap (λ (n : ℕ). z + n) count) kept (v ∷ []) (of_one v has) t c
      (subst (Contains (map (renamed (with_new_tags z us)) (v ∷ []))) (ap (λ (qs : List (Vertex × Tag)). renamed qs v) (sym rs_is) ∙ v_is)
      (in_map (renamed (with_new_tags z us)) (v ∷ []) v (in_here v [])))
