-- Words, and the texts of the vertices that they name.
use Rattle.std.proofs.Common.{◌≡◌, ℕ, zero, suc, ◌+◌, ◌<◌, ◌≤◌, ◌⊎◌, ◌↔◌, inl, inr, Bool, true, false, cond, IsTrue, String, string_bytes, List, [], ◌∷◌, ◌++◌, length, take, get_or, map, All, Contains, Some, slice_get, arith, refl, sym, ap, subst, ◌∙◌, below_more}
use Rattle.std.specs.BTreeSet.{BTreeSet}
use Rattle.std.specs.Cmp.Lexicographic.{slice_cmp, texts_ties}
use Rattle.std.specs.Global.{Global}
use Rattle.std.specs.Ordering.{is_eq, nat_cmp}
use Rattle.std.proofs.lemmas.List.{length-map, get_or-map, map-append, take_all, take_more}
use Rattle.std.proofs.lemmas.List.Elements.{All-more, All-weaker, Contains-get_or, Contains-append_left, Contains-push, Contains-push_cases}
use Rattle.std.proofs.lemmas.Option.{slice_get-get_or, get_or_from_slice_get, slice_get_within}
use Rattle.std.proofs.lemmas.Slice.Eq.{bytes_eq-Decides}
use Rattle.std.specs.Str.{bytes_eq}
use Rattle.hpr_terms.proofs.Facts.{get_in_map, in_map, map_in}
use Rattle.hpr_graph.specs.Graphs.{Graph, Same}
use Rattle.hpr_graph.specs.Numbered.{Numbered, graph_in}
use Rattle.hpr_words.specs.Request.{Text}
use Rattle.hpr_inputs.specs.Points.{IsFirstStranger, IsNamed, point_text, OnPoints}
use Rattle.hpr_inputs.specs.ReadsPoints.{AddsText, AreNumbersFor, AreNumbersIn, has, HasTexts, RefusesPoint}
use Rattle.hpr_inputs.specs.declared.answer.Stop.{Stop}
use Rattle.hpr_inputs.specs.declared.answer.Stop.TheVariants as stop
use Rattle.hpr_inputs.specs.Decision.{Decision}

some_same : (x y : Text) → Some x ≡ Some y → x ≡ y
some_same x y e = cc

-- what a test tells that fails
pub fails : (b : Bool) (P : Type 0) → (IsTrue b ↔ P) → b ≡ false → ¬ P
fails b P tells e h = let no : false ≡ true = sym e ∙ tells.1 h in absurd cc

-- a set with one text more
adds_if : (b : Bool) (x y : Text) (now had : Bool) → bytes_eq x y ≡ b → now ≡ cond b true had → IsTrue now ↔ (IsTrue had ⊎ (y ≡ x))
adds_if true x y now had e is = (λ t. inr (sym ((bytes_eq-Decides x y).0 e)), λ h. is)
adds_if false x y now had e is = (
  λ t. inl (sym is ∙ t),
  λ h. elim h [ inl t ↦ is ∙ t | inr same ↦ (let yes : bytes_eq x y ≡ true = (bytes_eq-Decides x y).1 (sym same) in absurd cc) ],
)

pub adds_text : (x y : Text) (now had : Bool) → now ≡ cond (is_eq (slice_cmp nat_cmp x y)) true had → IsTrue now ↔ (IsTrue had ⊎ (y ≡ x))
adds_text x y now had is = adds_if (bytes_eq x y) x y now had refl (is ∙ ap (λ b. cond b true had) (sym (texts_ties x y)))

pub texts_more : {X : Type 0} (f : X → Text) (xs : List X) (old new : BTreeSet (String Global)) (i : ℕ) (x : X) → i < length xs → x ≡ get_or xs i x
    → HasTexts old (map f (take i xs)) → AddsText old new (f x) → HasTexts new (map f (take (i + 1) xs))
texts_more f xs old new i x low is before adds s =
    let ys = map f (take i xs) in
    let next : map f (take (i + 1) xs) ≡ ys ++ f x ∷ [] =
    ap (map f) (take_more xs i x low ∙ ap (λ y. take i xs ++ y ∷ []) (sym is)) ∙ map-append f (take i xs) (x ∷ []) in
    subst (λ ts. has new s ↔ Contains ts (string_bytes s)) (sym next) (
      λ h. elim ((adds s).0 h) [ inl had ↦ Contains-append_left ys (f x ∷ []) (string_bytes s) ((before s).0 had) | inr same ↦ subst (Contains (ys ++ f x ∷ [])) (sym same) (Contains-push ys (f x)) ],
      λ h. (adds s).1 (elim (Contains-push_cases ys (f x) (string_bytes s) h) [ inl earlier ↦ inl ((before s).1 earlier) | inr same ↦ inr (sym same) ]),
    )

pub texts_more_at : {X : Type 0} (f : X → Text) (xs : List X) (old new : BTreeSet (String Global)) (i : ℕ) (d : X) → i < length xs
    → HasTexts old (map f (take i xs)) → AddsText old new (f (get_or xs i d)) → HasTexts new (map f (take (i + 1) xs))
texts_more_at f xs old new i d low before adds =
    let x = get_or xs i d in
    texts_more f xs old new i x low (sym (get_or_from_slice_get xs i x x (slice_get-get_or xs i d low))) before adds

-- the first word of which P doesn't hold, behind those of which it holds
first_stranger : (P : Text → Type 0) (words : List Text) (i : ℕ) (word : Text) → i < length words → word ≡ get_or words i word → All P (take i words) → ¬ P word
    → IsFirstStranger P words word
first_stranger P [] i word low here before not = absurd (omega (arith, low))
first_stranger P (w ∷ ws) zero word low here before not = inl (subst (λ x. ¬ P x) here not, here)
first_stranger P (w ∷ ws) (suc i) word low here before not =
    inr (before 0 w (omega arith), first_stranger P ws i word (omega (arith, low)) here (λ k d l. before (suc k) d (omega (arith, l))) not)

pub stranger_map : (P Q : Text → Type 0) → ((w : Text) → P w ↔ Q w) → (words : List Text) (word : Text) → IsFirstStranger P words word → IsFirstStranger Q words word
stranger_map P Q f [] word h = h
stranger_map P Q f (w ∷ ws) word (inl (n, is)) = inl (λ q. n ((f w).1 q), is)
stranger_map P Q f (w ∷ ws) word (inr (p, later)) = inr ((f w).0 p, stranger_map P Q f ws word later)

pub refuses_map : (P Q : Text → Type 0) → ((w : Text) → P w ↔ Q w) → (words : List Text) (s : Stop) → RefusesPoint P words s → RefusesPoint Q words s
refuses_map P Q f words (stop.Refused message) (word, first, is) = (word, stranger_map P Q f words word first, is)
refuses_map P Q f words (stop.ReadFault message) h = h
refuses_map P Q f words stop.Memory h = tt

-- texts that are read one after another
module _ {X : Type 0} (f : X → Text) (xs : List X) where
  within : (i : ℕ) → i < length xs → i < length (map f xs)
  within i low = subst (λ n. i < n) (sym (length-map xs f)) low

  here : (i : ℕ) (d : X) → i < length xs → f (get_or xs i d) ≡ get_or (map f xs) i (f (get_or xs i d))
  here i d low = sym (get_or-map f xs i d (f (get_or xs i d)) low)

  module _ (P : Text → Type 0) where
    abbrev pub Judged : ℕ → Type 0
    Judged i = All P (take i (map f xs))

    pub judged_more : (i : ℕ) (d : X) → i < length xs → Judged i → P (f (get_or xs i d)) → Judged (i + 1)
    judged_more i d low before p = All-more P (map f xs) i (f (get_or xs i d)) (within i low) before (subst P (here i d low) p)

    pub judged_all : (i : ℕ) → length xs ≤ i → Judged i → All P (map f xs)
    judged_all i past before = subst (All P) (take_all i (map f xs) (subst (λ n. n ≤ i) (sym (length-map xs f)) past)) before

    pub stranger_at : (i : ℕ) (d : X) → i < length xs → Judged i → ¬ P (f (get_or xs i d)) → IsFirstStranger P (map f xs) (f (get_or xs i d))
    stranger_at i d low before not = first_stranger P (map f xs) i (f (get_or xs i d)) (within i low) (here i d low) before not

  pub text_at : (i : ℕ) (x : X) (text : Text) → i < length xs → x ≡ get_or xs i x → text ≡ f x → slice_get (map f xs) i ≡ Some text
  text_at i x text low is e = slice_get-get_or (map f xs) i text (within i low) ∙ ap (λ t. Some t) (get_or-map f xs i x text low ∙ ap f (sym is) ∙ sym e)

-- the places of the first texts that are among the words
pub record AreNumbersTo (texts words : List Text) (numbers : List ℕ) (i : ℕ) : Type 0 where
  pub below : (n : ℕ) → Contains numbers n → n < i
  pub exact : (at : ℕ) → at < i → (text : Text) → slice_get texts at ≡ Some text → Contains numbers at ↔ Contains words text

module _ (texts words : List Text) where
  -- the next text is among the words, and its place is pushed
  module _ (old : List ℕ) (i : ℕ) (text : Text) (at_i : slice_get texts i ≡ Some text) (before : AreNumbersTo texts words old i) where
    same_text : (t : Text) → slice_get texts i ≡ Some t → text ≡ t
    same_text t is = some_same text t (sym at_i ∙ is)

    pub named_next : Contains words text → AreNumbersTo texts words (old ++ i ∷ []) (i + 1)
    named_next named = record {
      below = λ n h. elim (Contains-push_cases old i n h) [ inl earlier ↦ (let low : n < i = before.below n earlier in omega (arith, low)) | inr e ↦ omega (arith, e) ];
      exact = below_more _ _
          (λ at low t is. (
            λ h. elim (Contains-push_cases old i at h) [ inl earlier ↦ (before.exact at low t is).0 earlier | inr e ↦ absurd (omega (arith, low, e)) ],
            λ h. Contains-append_left old (i ∷ []) at ((before.exact at low t is).1 h),
          ))
          (λ t is. (λ h. subst (Contains words) (same_text t is) named, λ h. Contains-push old i));
    }

    pub unnamed_next : ¬ Contains words text → AreNumbersTo texts words old (i + 1)
    unnamed_next unnamed = record {
      below = λ n h. (let low : n < i = before.below n h in omega (arith, low));
      exact = below_more _ _ before.exact (λ t is. (
        λ h. (let low : i < i = before.below i h in absurd (omega (arith, low))),
        λ h. absurd (unnamed (subst (Contains words) (sym (same_text t is)) h)),
      ));
    }

  pub all_numbers : (numbers : List ℕ) (i : ℕ) → i ≡ length texts → AreNumbersTo texts words numbers i → AreNumbersIn texts words numbers
  all_numbers numbers i all h = record {
    within = λ k d low. (let m : get_or numbers k d < i = h.below (get_or numbers k d) (Contains-get_or numbers k d low) in omega (arith, all, m));
    exact = λ at t is. (let low : at < length texts = slice_get_within texts at t is in h.exact at (omega (arith, all, low)) t is);
  }

-- the texts of the vertices of a graph
module _ (g : Numbered) where
  abbrev vertex_texts : List Text
  vertex_texts = map point_text g.vertices

  text_names : (word : Text) → Contains vertex_texts word ↔ IsNamed (graph_in g) word
  text_names word = (
    λ h. (let (v, has, is) = map_in point_text g.vertices word h in (v, has, sym is)),
    λ (v, has, is). subst (Contains vertex_texts) (sym is) (in_map point_text g.vertices v has),
  )

  numbers_of : (words : List Text) (numbers : List ℕ) → AreNumbersIn vertex_texts words numbers → AreNumbersFor g words numbers
  numbers_of words numbers h = record {
    within = subst (λ n. All (λ m. m < n) numbers) (length-map g.vertices point_text) h.within;
    exact = λ at v is. h.exact at (point_text v) (get_in_map point_text g.vertices at v is);
  }

  -- what is found and judged of the texts is so of the vertices
  module _ (texts words : List Text) (are : texts ≡ vertex_texts) where
    pub numbers_for : (numbers : List ℕ) → AreNumbersIn texts words numbers → AreNumbersFor g words numbers
    numbers_for numbers h = numbers_of words numbers (subst (λ ts. AreNumbersIn ts words numbers) are h)

    pub named_all : All (Contains texts) words → All (IsNamed (graph_in g)) words
    named_all all = All-weaker (Contains vertex_texts) (IsNamed (graph_in g)) (λ w. (text_names w).0) words (subst (λ ts. All (Contains ts) words) are all)

    pub named_refused : (s : Stop) → RefusesPoint (Contains texts) words s → RefusesPoint (IsNamed (graph_in g)) words s
    named_refused s h = refuses_map (Contains vertex_texts) (IsNamed (graph_in g)) text_names words s (subst (λ ts. RefusesPoint (Contains ts) words s) are h)

-- the same graphs name the same
pub named_same : (g h : Graph) → Same g h → (word : Text) → IsNamed g word ↔ IsNamed h word
named_same g h same word = (λ (v, has, is). (v, (same.0 v).0 has, is), λ (v, has, is). (v, (same.0 v).1 has, is))

-- where each word is that for a vertex, no point is refused
pub not_stranger : (P : Text → Type 0) (words : List Text) (word : Text) → IsFirstStranger P words word → All P words → ⊥
not_stranger P [] word h all = h
not_stranger P (w ∷ ws) word (inl (n, _)) all = n (all 0 w (omega arith))
not_stranger P (w ∷ ws) word (inr (_, later)) all = not_stranger P ws word later (λ k d low. all (suc k) d (omega (arith, low)))

-- there is one first stranger
pub one_stranger : (P : Text → Type 0) (words : List Text) (x y : Text) → IsFirstStranger P words x → IsFirstStranger P words y → x ≡ y
one_stranger P [] x y h k = absurd h
one_stranger P (w ∷ ws) x y (inl (_, is)) (inl (_, so)) = is ∙ sym so
one_stranger P (w ∷ ws) x y (inl (n, _)) (inr (p, _)) = absurd (n p)
one_stranger P (w ∷ ws) x y (inr (p, _)) (inl (n, _)) = absurd (n p)
one_stranger P (w ∷ ws) x y (inr (_, h)) (inr (_, k)) = one_stranger P ws x y h k

pub of_points : (g : Graph) (words : List Text) (next : Type 0) (r : Decision) → All (IsNamed g) words → OnPoints g words next r → next
of_points g words next r all (inl (word, first, _)) = absurd (not_stranger (IsNamed g) words word first all)
of_points g words next r all (inr (_, n)) = n
