-- Reasons, one more at a time.
use Rattle.std.proofs.Common.{◌≡◌, ℕ, ◌+◌, ◌<◌, ◌≤◌, inl, inr, Option, Some, List, [], ◌∷◌, ◌++◌, Contains, length, slice_get, sym, ap, ◌∙◌, subst, arith}
use Rattle.std.proofs.lemmas.Bool.{cases_eq}
use Rattle.std.proofs.lemmas.List.{length_push}
use Rattle.std.proofs.lemmas.Option.{slice_get_within}
use Rattle.hpr_graph.specs.Numbered.{Numbered}
use Rattle.hpr_graph.proofs.Lists.{some_inj, get_longer, at_end}
use Rattle.hpr_impact.specs.declared.search.Visit.{Visit}
use Rattle.hpr_impact.specs.declared.why.Reason.{Reason}
use Rattle.hpr_impact.specs.Private.Ways.{AreKnown, AreMade, IsKnown, IsMade, visit_at}

-- those of the first of the points
pub record AreMadeTo (g : Numbered) (points : List ℕ) (table : List (Option Visit)) (i : ℕ) (rs : List Reason) : Type 0 where
  pub count : length rs ≡ i
  pub each : (j n : ℕ) (v : Visit) → j < i → slice_get points j ≡ Some n → visit_at table n ≡ Some v → (r : Reason) × (slice_get rs j ≡ Some r) × IsMade g points v r

pub known_visit : (g : Numbered) (points : List ℕ) (table : List (Option Visit)) (n : ℕ) (v : Visit) → AreKnown g points table → Contains points n → visit_at table n ≡ Some v → IsKnown g points n v
known_visit g points table n v known has at =
    let (w, at_w, is) = known n has in
    subst (IsKnown g points n) (some_inj w v (sym at_w ∙ at)) is

pub made_none : (g : Numbered) (points : List ℕ) (table : List (Option Visit)) (rs : List Reason) → rs ≡ [] → AreMadeTo g points table 0 rs
made_none g points table rs e = record { count = ap length e; each = λ j n v l. absurd (omega (arith, l)) }

pub made_more : (g : Numbered) (points : List ℕ) (table : List (Option Visit)) (i n : ℕ) (v : Visit) (r : Reason) (rs new : List Reason) → slice_get points i ≡ Some n → visit_at table n ≡ Some v → IsMade g points v r
    → AreMadeTo g points table i rs → new ≡ rs ++ r ∷ [] → AreMadeTo g points table (i + 1) new
made_more g points table i n v r rs new at_n at_v made before is =
    rw is (record {
      count = omega (arith, length_push rs r, before.count);
      each = λ j m w l at_m at_w. elim (cases_eq j i) [
        | inl e ↦
            (let same : n ≡ m = some_inj n m (sym at_n ∙ ap (slice_get points) (sym e) ∙ at_m) in
            let visit : v ≡ w = some_inj v w (sym at_v ∙ ap (visit_at table) same ∙ at_w) in
            (r, ap (slice_get (rs ++ r ∷ [])) (e ∙ sym before.count) ∙ at_end rs r, subst (λ (x : Visit). IsMade g points x r) visit made))
        | inr ne ↦
            (let (q, at_q, is_made) = before.each j m w (omega (arith, l, ne)) at_m at_w in
            (q, get_longer rs (r ∷ []) j q at_q, is_made))
      ];
    })

pub made_all : (g : Numbered) (points : List ℕ) (table : List (Option Visit)) (i : ℕ) (rs : List Reason) → i ≤ length points → length points ≤ i → AreMadeTo g points table i rs → AreMade g points table rs
made_all g points table i rs within past made = record {
  count = omega (arith, made.count, within, past);
  each = λ j n v at_n at_v. made.each j n v (let w = slice_get_within points j n at_n in omega (arith, w, past)) at_n at_v;
}
