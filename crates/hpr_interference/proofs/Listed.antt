-- Values one after another.
use Rattle.std.proofs.Common.{◌≡◌, Bor, ℕ, zero, suc, ◌+◌, ◌<◌, ◌≤◌, List, [], ◌∷◌, ◌++◌, length, map, drop, take, get_or, refl, sym, ap, ap₂, ◌∙◌, arith, append_assoc}
use Rattle.std.specs.Prelude.{zip}
use Rattle.std.proofs.lemmas.List.{append-nil, map-append, take_more}
use Rattle.serde_json.specs.Data.{Data}
use Rattle.serde_json.specs.View.{view}
use Rattle.serde_json.specs.declared.value.Value.{Value}
use Rattle.hpr_graph.specs.declared.conflict.ManyConflict.{ManyConflict}
use Rattle.hpr_graph.specs.declared.vertex.Vertex.{Vertex}

module _ (values new : List Value) (value : Value) (is : new ≡ values ++ value ∷ []) where
  pub push_view : map view new ≡ map view values ++ view value ∷ []
  push_view = ap (map view) is ∙ map-append view values (value ∷ [])

  -- one more of those that are to be told
  pub told_more : {X : Type 0} (f : X → Data) (xs now later : List X) (x : X) → now ≡ x ∷ later → map view values ++ map f now ≡ map f xs
      → view value ≡ f x → map view new ++ map f later ≡ map f xs
  told_more f xs now later x next told shows =
      ap (λ (ds : List Data). ds ++ map f later) push_view ∙ append_assoc (map view values) (view value ∷ []) (map f later)
      ∙ ap (λ (d : Data). map view values ++ d ∷ map f later) shows ∙ ap (λ ys. map view values ++ map f ys) (sym next) ∙ told

-- one more behind those that were told
pub told_end : {X : Type 0} (f : X → Data) (xs : List X) (x : X) (values new : List Value) (value : Value) → new ≡ values ++ value ∷ []
    → map view values ≡ map f xs → view value ≡ f x → map view new ≡ map f (xs ++ x ∷ [])
told_end f xs x values new value is told shows =
    push_view values new value is ∙ ap₂ (λ (ds : List Data) (d : Data). ds ++ d ∷ []) told shows ∙ sym (map-append f xs (x ∷ []))

pub told_all : {X : Type 0} (f : X → Data) (xs now : List X) (values : List Value) → now ≡ []
    → map view values ++ map f now ≡ map f xs → map view values ≡ map f xs
told_all f xs now values none told = sym (append-nil (map view values)) ∙ ap (λ ys. map view values ++ map f ys) (sym none) ∙ told

-- what is left of two lists side by side
pub zip_next : {X : Type 0} (cs : List X) (ns : List ℕ) (i : ℕ) (c : X) → length ns ≡ length cs → i < length cs
    → c ≡ get_or cs i c → drop i (zip cs ns) ≡ (c, get_or ns i 0) ∷ drop (suc i) (zip cs ns)
zip_next [] ns i c many l is = absurd (omega (arith, l))
zip_next (d ∷ cs) [] i c many l is = absurd (omega (arith, many))
zip_next {X} (d ∷ cs) (n ∷ ns) zero c many l is = ap (λ (x : X). (x, n) ∷ zip cs ns) (sym is)
zip_next (d ∷ cs) (n ∷ ns) (suc i) c many l is = zip_next cs ns i c (omega (arith, many)) (omega (arith, l)) is

pub zip_done : {X : Type 0} (cs : List X) (ns : List ℕ) (i : ℕ) → length cs ≤ i → drop i (zip cs ns) ≡ []
zip_done [] ns zero l = refl
zip_done [] ns (suc i) l = refl
zip_done (c ∷ cs) [] zero l = absurd (omega (arith, l))
zip_done (c ∷ cs) [] (suc i) l = refl
zip_done (c ∷ cs) (n ∷ ns) zero l = absurd (omega (arith, l))
zip_done (c ∷ cs) (n ∷ ns) (suc i) l = zip_done cs ns i (omega (arith, l))

-- the point of one more conflict
abbrev pub point_at : List ManyConflict → ManyConflict → ℕ → Vertex
point_at cs c i = (get_or cs i c).point

abbrev pub now_of : Bor Vertex → Vertex
now_of p = p.now

pub points_more : (cs : List ManyConflict) (c : ManyConflict) (row : List ℕ) (i : ℕ) (ps new : List (Bor Vertex)) (p : Bor Vertex)
    → i < length row → new ≡ ps ++ p ∷ [] → p.now ≡ point_at cs c (get_or row i 0)
    → map now_of ps ≡ map (point_at cs c) (take i row) → map now_of new ≡ map (point_at cs c) (take (i + 1) row)
points_more cs c row i ps new p l is point told =
    ap (map now_of) is ∙ map-append now_of ps (p ∷ []) ∙ ap₂ (λ (vs : List Vertex) (v : Vertex). vs ++ v ∷ []) told point
    ∙ sym (map-append (point_at cs c) (take i row) (get_or row i 0 ∷ [])) ∙ ap (map (point_at cs c)) (sym (take_more row i 0 l))
