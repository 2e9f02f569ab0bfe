-- A base and its variants have one answer, but that a search may go on past its budget, and so have three programs.
use Rattle.std.proofs.Common.{◌≡◌, ◌≢◌, ℕ, zero, suc, ◌≤◌, ◌⊎◌, inl, inr, List, [], ◌∷◌, ◌++◌, length, take, Contains, refl, sym, ap, ◌∙◌, subst, arith}
use Rattle.std.specs.List.{AllByRecursion}
use Rattle.hpr_terms.specs.declared.tag.Tag.{Tag}
use Rattle.hpr_syntax.specs.Shape.{IsProgram}
use Rattle.hpr_syntax.specs.Tree.{Tree}
use Rattle.hpr_graph.specs.declared.vertex.Vertex.{Vertex}
use Rattle.hpr_graph.specs.declared.edge.Edge.{Edge}
use Rattle.hpr_graph.specs.Graphs.{Graph}
use Rattle.hpr_graph.specs.Answer.{AnswerBy, Answer, interference, printed, no_program, spent, Fits, NoneFits, IsFirstFit, HasNoProgram, HasParts, IsFoundFor, AreSplitOff, graphs_of, searched_graph_of, AreWithoutConflict, IsWithoutConflict, IsAnswerBy, IsAnswer}
use Rattle.hpr_graph.specs.Conflicts.{told_as, AreConflictsBy}
use Rattle.hpr_graph.specs.ProgramGraph.{graph_of}
use Rattle.hpr_graph.proofs.Lists.{in_here, in_later, no_longer}
use Rattle.hpr_engine.specs.Budget.{AreTried, AreTriedOf, Agree}
use Rattle.hpr_engine.proofs.OneList.{all_conflicts_one}
use Rattle.hpr_engine.proofs.OneRank.{one_tried}
use Rattle.hpr_engine.proofs.SearchedFor.{IsFoundWith, found_with}

later_none : (g : Graph) (p : Tree) (ps : List Tree) → NoneFits g (p ∷ ps) → NoneFits g ps
later_none g p ps none q there = none q (in_later p q ps there)

-- one program is the first that fits
one_first : (g : Graph) (front back front' back' : List Tree) (m n : Tree) → front ++ m ∷ back ≡ front' ++ n ∷ back' → Fits g m → Fits g n → NoneFits g front → NoneFits g front' → m ≡ n
one_first g [] back [] back' m n e fits fits' none none' = cc
one_first g [] back (q ∷ front') back' m n e fits fits' none none' =
    let same : m ≡ q = cc in absurd (none' q (in_here q front') (subst (Fits g) same fits))
one_first g (p ∷ front) back [] back' m n e fits fits' none none' =
    let same : n ≡ p = cc in absurd (none p (in_here p front) (subst (Fits g) same fits'))
one_first g (p ∷ front) back (q ∷ front') back' m n e fits fits' none none' =
    let rest : front ++ m ∷ back ≡ front' ++ n ∷ back' = cc in
    one_first g front back front' back' m n rest fits fits' (later_none g p front none) (later_none g q front' none')

one_fit : (g : Graph) (ps : List Tree) (m n : Tree) → IsFirstFit g ps m → IsFirstFit g ps n → m ≡ n
one_fit g ps m n (front, back, is, fits, none) (front', back', so, fits', none') = one_first g front back front' back' m n (sym is ∙ so) fits fits' none none'

-- a graph has one number of parts
one_count : (g : Graph) (m n : ℕ) → HasParts g m → HasParts g n → m ≡ n
one_count g m n (vs, once, exact, is) (ws, once', exact', so) =
    omega (arith, is, so, no_longer vs ws once (λ v h. (exact' v).1 ((exact v).0 h)), no_longer ws vs once' (λ v h. (exact v).1 ((exact' v).0 h)))

-- the first that fits of the first so many is the first that fits of all
taken_split : (ps : List Tree) (n : ℕ) (front back : List Tree) (m : Tree) → take n ps ≡ front ++ m ∷ back → (rest : List Tree) × (ps ≡ front ++ m ∷ rest)
taken_split [] zero [] back m e = absurd cc
taken_split [] zero (f ∷ front) back m e = absurd cc
taken_split [] (suc n) [] back m e = absurd cc
taken_split [] (suc n) (f ∷ front) back m e = absurd cc
taken_split (p ∷ ps) zero [] back m e = absurd cc
taken_split (p ∷ ps) zero (f ∷ front) back m e = absurd cc
taken_split (p ∷ ps) (suc n) [] back m e = let same : p ≡ m = cc in (ps, ap (λ (x : Tree). x ∷ ps) same)
taken_split (p ∷ ps) (suc n) (f ∷ front) back m e =
    let first : p ≡ f = cc in
    let (rest, is) = taken_split ps n front back m cc in
    let whole : p ∷ ps ≡ f ∷ (front ++ m ∷ rest) = cc in
    (rest, whole)

first_of_all : (g : Graph) (ps : List Tree) (n : ℕ) (m : Tree) → IsFirstFit g (take n ps) m → IsFirstFit g ps m
first_of_all g ps n m (front, back, is, fits, none) = let (rest, whole) = taken_split ps n front back m is in (front, rest, whole, fits, none)

fit_within : (g : Graph) (ps : List Tree) (m : Tree) → IsFirstFit g ps m → Contains ps m
fit_within g ps m (front, back, is, fits, none) = subst (λ (l : List Tree). Contains l m) (sym is) (in_front front)
  where
    in_front : (front : List Tree) → Contains (front ++ m ∷ back) m
    in_front [] = in_here m back
    in_front (p ∷ front) = in_later p m (front ++ m ∷ back) (in_front front)

-- a printed program is one, and has the graph that is searched
abbrev FitsSearched : Tree → List Tree → Tree → Type 0
FitsSearched base vs m = (rs : List (Vertex × Tag)) × AreSplitOff base vs rs × Fits (searched_graph_of rs base vs) m

pub printed_fits_by : {X : Type 0} (at : X → ℕ × Vertex × Edge) (base : Tree) (vs : List Tree) (tries : ℕ) (m : Tree) → IsAnswerBy at base vs tries (printed m) → IsProgram m × FitsSearched base vs m
printed_fits_by at base vs tries m (free, (rs, split, (rank, is, (ps, are, first)))) =
    (((are.0 m).0 (fit_within (searched_graph_of rs base vs) ps m first)).program, (rs, split, first.3))

pub printed_fits : (base a b : Tree) (tries : ℕ) (m : Tree) → IsAnswer base a b tries (printed m) → IsProgram m × FitsSearched base (a ∷ b ∷ []) m
printed_fits base a b tries m answer = printed_fits_by told_as base (a ∷ b ∷ []) tries m answer

-- for the parts that are split off, one answer is found
module _ (base : Tree) (vs : List Tree) (is : IsProgram base) (all : AllByRecursion IsProgram vs) (rs : List (Vertex × Tag)) (split : AreSplitOff base vs rs) where
  abbrev G : Graph
  G = searched_graph_of rs base vs

  same_tried : (ps qs : List Tree) → AreTriedOf rs base vs ps → AreTriedOf rs base vs qs → ps ≡ qs
  same_tried ps qs tried tried' = one_tried base vs rs ps qs is all split tried tried'

  fits_no_program : (ps : List Tree) (m : Tree) → AreTriedOf rs base vs ps → IsFirstFit G ps m → ¬ HasNoProgram G
  fits_no_program ps m (rank, is_rank, are) first none = none m ((are.0 m).0 (fit_within G ps m first)).program first.3

  module _ {X : Type 0} (tries : ℕ) where
    abbrev Finds : AnswerBy X → Type 0
    Finds r = IsFoundWith base vs {X = X} rs tries r

    one_found : (r s : AnswerBy X) → Finds r → Finds s → Agree r s
    one_found (interference cs) s (rank, is_rank, never) k = absurd never
    one_found (printed m) (interference ds) h (rank, is_rank, never) = absurd never
    one_found (no_program n) (interference ds) h (rank, is_rank, never) = absurd never
    one_found spent (interference ds) h (rank, is_rank, never) = absurd never
    one_found (printed m) (printed n) (rank, is_rank, (ps, are, first)) (rank', is_rank', (qs, are', first')) =
        let same : ps ≡ qs = same_tried ps qs (rank, is_rank, are) (rank', is_rank', are') in
        inl (ap printed (one_fit G qs m n (subst (λ (l : List Tree). IsFirstFit G l m) same first) first'))
    one_found (printed m) (no_program n) (rank, is_rank, (ps, are, first)) (rank', is_rank', (none, parts)) = absurd (fits_no_program ps m (rank, is_rank, are) first none)
    one_found (no_program n) (printed m) (rank', is_rank', (none, parts)) (rank, is_rank, (ps, are, first)) = absurd (fits_no_program ps m (rank, is_rank, are) first none)
    one_found (no_program m) (no_program n) (rank, is_rank, (none, parts)) (rank', is_rank', (none', parts')) = inl (ap no_program (one_count G m n parts parts'))
    one_found (printed m) spent h k = inr (inr (tt, refl))
    one_found (no_program n) spent h k = inr (inr (tt, refl))
    one_found spent (printed m) h k = inr (inl (refl, tt))
    one_found spent (no_program n) h k = inr (inl (refl, tt))
    one_found spent spent h k = inl refl

    module _ (ps : List Tree) (tried : AreTriedOf rs base vs ps) where
      first_found : (m : Tree) (r : AnswerBy X) → IsFirstFit G (take tries ps) m → Finds r → r ≡ printed m
      first_found m (interference cs) first (rank, is_rank, never) = absurd never
      first_found m (printed n) first (rank, is_rank, (qs, are, first')) =
          let same : ps ≡ qs = same_tried ps qs tried (rank, is_rank, are) in
          ap printed (one_fit G qs n m first' (subst (λ (l : List Tree). IsFirstFit G l m) same (first_of_all G ps tries m first)))
      first_found m (no_program n) first (rank, is_rank, (none, parts)) = absurd (fits_no_program ps m tried (first_of_all G ps tries m first) none)
      first_found m spent first (rank, is_rank, (qs, are, more, none, leaves)) =
          let same : ps ≡ qs = same_tried ps qs tried (rank, is_rank, are) in
          absurd (none m (subst (λ (l : List Tree). Contains (take tries l) m) same (fit_within G (take tries ps) m first)) first.3)

      never_spent : (r : AnswerBy X) → length ps ≤ tries → Finds r → r ≢ spent
      never_spent (interference cs) few h = λ e. cc
      never_spent (printed m) few h = λ e. cc
      never_spent (no_program n) few h = λ e. cc
      never_spent spent few (rank, is_rank, (qs, are, more, none, leaves)) = λ e. (
          let same : ps ≡ qs = same_tried ps qs tried (rank, is_rank, are) in
          omega (arith, few, more, ap (λ (l : List Tree). length l) same))

module _ {X : Type 0} (at : X → ℕ × Vertex × Edge) (base : Tree) (vs : List Tree) (is : IsProgram base) (all : AllByRecursion IsProgram vs) (tries : ℕ) where
  abbrev AreListed : List X → Type 0
  AreListed = AreConflictsBy at (graph_of base) (graphs_of vs)

  abbrev Is : AnswerBy X → Type 0
  Is r = IsAnswerBy at base vs tries r

  one_of : (xs ys : List X) → AreListed xs → AreListed ys → xs ≡ ys
  one_of = all_conflicts_one at (graph_of base) (graphs_of vs)

  -- each answer tells all conflicts, of which there is one, or it is found
  abbrev IsTold : AnswerBy X → Type 0
  IsTold r = (xs : List X) × (r ≡ interference xs) × AreListed xs × ¬ (xs ≡ [])

  told_or_found : (r : AnswerBy X) → Is r → IsTold r ⊎ (AreWithoutConflict at base vs × IsFoundFor {X = X} base vs tries r)
  told_or_found (interference cs) (are, some) = inl (cs, refl, are, some)
  told_or_found (printed m) h = inr h
  told_or_found (no_program n) h = inr h
  told_or_found spent h = inr h

  pub one_answer_by : (r s : AnswerBy X) → Is r → Is s → Agree r s
  one_answer_by r s h k = elim (told_or_found r h) [
    | inl (xs, r_is, are, some) ↦ elim (told_or_found s k) [
      | inl (ys, s_is, are', some') ↦ inl (r_is ∙ ap interference (one_of xs ys are are') ∙ sym s_is)
      | inr (free, found) ↦ absurd (some (one_of xs [] are free))
    ]
    | inr (free, (rs, split, found)) ↦ elim (told_or_found s k) [
      | inl (ys, s_is, are, some) ↦ absurd (some (one_of ys [] are free))
      | inr (free', found') ↦ one_found base vs is all rs split tries r s found (found_with base vs rs split tries s found')
    ]
  ]

  module _ (rs : List (Vertex × Tag)) (split : AreSplitOff base vs rs) (ps : List Tree) (free : AreWithoutConflict at base vs) (tried : AreTriedOf rs base vs ps) where
    -- where there is no conflict, the answer is found
    found : (r : AnswerBy X) → Is r → IsFoundWith base vs {X = X} rs tries r
    found r h = elim (told_or_found r h) [
      | inl (xs, r_is, are, some) ↦ absurd (some (one_of xs [] are free))
      | inr (free', any) ↦ found_with base vs rs split tries r any
    ]

    -- where one of the first `tries` arrangements fits, the first such one is the answer
    pub fit_is_printed_by : (m : Tree) (r : AnswerBy X) → IsFirstFit (searched_graph_of rs base vs) (take tries ps) m → Is r → r ≡ printed m
    fit_is_printed_by m r first h = first_found base vs is all rs split tries ps tried m r first (found r h)

    -- where no more arrangements exist than may be tried, the budget is not spent
    pub enough_by : (r : AnswerBy X) → length ps ≤ tries → Is r → r ≢ spent
    enough_by r few h = never_spent base vs is all rs split tries ps tried r few (found r h)

-- the same of two variants
module _ (base a b : Tree) (is : IsProgram base) (is_a : IsProgram a) (is_b : IsProgram b) (tries : ℕ) where
  pub one_answer : (r s : Answer) → IsAnswer base a b tries r → IsAnswer base a b tries s → Agree r s
  one_answer = one_answer_by told_as base (a ∷ b ∷ []) is (is_a, (is_b, tt)) tries

  module _ (rs : List (Vertex × Tag)) (split : AreSplitOff base (a ∷ b ∷ []) rs) (ps : List Tree) (free : IsWithoutConflict base a b) (tried : AreTried rs base a b ps) where
    pub fit_is_printed : (m : Tree) (r : Answer) → IsFirstFit (searched_graph_of rs base (a ∷ b ∷ [])) (take tries ps) m → IsAnswer base a b tries r → r ≡ printed m
    fit_is_printed = fit_is_printed_by told_as base (a ∷ b ∷ []) is (is_a, (is_b, tt)) tries rs split ps free tried

    pub enough : (r : Answer) → length ps ≤ tries → IsAnswer base a b tries r → r ≢ spent
    enough = enough_by told_as base (a ∷ b ∷ []) is (is_a, (is_b, tt)) tries rs split ps free tried
