-- What isn't refused: its files spell programs, and their graphs are within the limit.
use Rattle.std.proofs.Common.{◌≡◌, ◌≤◌, ℕ, List, [], ◌∷◌, length, inl, inr, arith}
use Rattle.hpr_io.specs.Files.{Files, bytes_of}
use Rattle.hpr_syntax.specs.Tree.{Tree}
use Rattle.hpr_engine.specs.Limit.{AreAllInLimit, HasTooManyEdges}
use Rattle.hpr_refusals.specs.Refusals.{IsFileOf, IsRefused}
use Rattle.hpr_words.specs.Request.{Text}
use Rattle.hpr_inputs.specs.Decision.{Decision, OnRead, refuses}
use Rattle.hpr_inputs.specs.Files.{OnFile, OnFiles, OnAllFiles}
use Rattle.hpr_inputs.specs.ReadsAll.{AreAllFilesOf}
use Rattle.hpr_decisions.specs.Graphs.{OnAllGraphs, OnGraph}

pub more_in_limit : (p : Tree) (ps : List Tree) → (HasTooManyEdges p → ⊥) → AreAllInLimit ps → AreAllInLimit (p ∷ ps)
more_in_limit p [] few rest = few
more_in_limit p (q ∷ ps) few rest = (few, rest)

pub first_in_limit : (p : Tree) (ps : List Tree) → AreAllInLimit (p ∷ ps) → HasTooManyEdges p → ⊥
first_in_limit p [] few = few
first_in_limit p (q ∷ ps) few = few.0

pub rest_in_limit : (p : Tree) (ps : List Tree) → AreAllInLimit (p ∷ ps) → AreAllInLimit ps
rest_in_limit p [] few = tt
rest_in_limit p (q ∷ ps) few = few.1

pub no_more : (fs : Files) (names : List Text) (ps : List Tree) → AreAllFilesOf fs names ps → length ps ≤ length names
no_more fs [] [] are = omega arith
no_more fs [] (p ∷ ps) are = absurd are
no_more fs (n ∷ ns) [] are = absurd are
no_more fs (n ∷ ns) (p ∷ ps) are = let less = no_more fs ns ps are.1 in omega (arith, less)

module _ (fs : Files) (d : Decision) (unrefused : (message : List ℕ) → d ≡ refuses message → ⊥) where
  pub past_read : {A : Type 0} (refused : List ℕ → Type 0) (is : A → Type 0) (next : A → Type 0) → OnRead refused is next d → (a : A) × is a × next a
  past_read refused is next (inl (message, h, e)) = absurd (unrefused message e)
  past_read refused is next (inr h) = h

  pub past_file : (file : List ℕ) (next : Tree → Type 0) → OnFile fs file next d → (p : Tree) × IsFileOf (bytes_of fs file) p × next p
  past_file file next o = past_read (IsRefused file (bytes_of fs file)) (IsFileOf (bytes_of fs file)) next o

  pub past_graph : (file : Text) (p : Tree) (next : Type 0) → OnGraph file p next d → (HasTooManyEdges p → ⊥) × next
  past_graph file p next (inl (many, e)) = absurd (unrefused _ e)
  past_graph file p next (inr h) = h

  pub past_files : (base a b : List ℕ) (next : Tree → Tree → Tree → Type 0) → OnFiles fs base a b next d
      → (p q r : Tree) × IsFileOf (bytes_of fs base) p × IsFileOf (bytes_of fs a) q × IsFileOf (bytes_of fs b) r × next p q r
  past_files base a b next o =
      let (p, base_is, on_a) = past_file base _ o in
      let (q, a_is, on_b) = past_file a _ on_a in
      let (r, b_is, h) = past_file b _ on_b in
      (p, q, r, base_is, a_is, b_is, h)

  -- the same of any number
  pub past_all_files : (names : List Text) (next : List Tree → Type 0) → OnAllFiles fs names next d → (ps : List Tree) × AreAllFilesOf fs names ps × next ps
  past_all_files [] next o = ([], tt, o)
  past_all_files (n ∷ ns) next o =
      let (p, is, rest) = past_file n (λ p. OnAllFiles fs ns (λ qs. next (p ∷ qs)) d) o in
      let (ps, are, h) = past_all_files ns (λ qs. next (p ∷ qs)) rest in
      (p ∷ ps, (is, are), h)

  pub past_all_graphs : (names : List Text) (ps : List Tree) (next : Type 0) → length ps ≤ length names → OnAllGraphs names ps next d → AreAllInLimit ps × next
  past_all_graphs [] [] next all o = (tt, o)
  past_all_graphs [] (p ∷ ps) next all o = absurd (omega (arith, all))
  past_all_graphs (n ∷ ns) [] next all o = (tt, o)
  past_all_graphs (n ∷ ns) (p ∷ ps) next all o =
      let (few, rest) = past_graph n p (OnAllGraphs ns ps next d) o in
      let (few_too, h) = past_all_graphs ns ps next (omega (arith, all)) rest in
      (more_in_limit p ps few few_too, h)

  -- base's file and the variants'
  pub past_many : (base : Text) (names : List Text) (next : Tree → List Tree → Type 0)
      → OnFile fs base (λ p. OnAllFiles fs names (λ ps. OnAllGraphs (base ∷ names) (p ∷ ps) (next p ps) d) d) d
      → (p : Tree) × (ps : List Tree) × IsFileOf (bytes_of fs base) p × AreAllFilesOf fs names ps × AreAllInLimit (p ∷ ps) × next p ps
  past_many base names next o =
      let (p, is, on_variants) = past_file base (λ p. OnAllFiles fs names (λ ps. OnAllGraphs (base ∷ names) (p ∷ ps) (next p ps) d) d) o in
      let (ps, are, on_graphs) = past_all_files names (λ ps. OnAllGraphs (base ∷ names) (p ∷ ps) (next p ps) d) on_variants in
      let (few, h) = past_all_graphs (base ∷ names) (p ∷ ps) (next p ps) (no_more fs (base ∷ names) (p ∷ ps) (is, are)) on_graphs in
      (p, ps, is, are, few, h)

-- files that spell programs whose graphs are within the limit aren't refused
pub of_all_graphs : (names : List Text) (ps : List Tree) (next : Type 0) (d : Decision) → AreAllInLimit ps → OnAllGraphs names ps next d → next
of_all_graphs [] ps next d few o = o
of_all_graphs (n ∷ ns) [] next d few o = o
of_all_graphs (n ∷ ns) (p ∷ ps) next d few (inl (many, e)) = absurd (first_in_limit p ps few many)
of_all_graphs (n ∷ ns) (p ∷ ps) next d few (inr (one, o)) = of_all_graphs ns ps next d (rest_in_limit p ps few) o

pub within_all : (names : List Text) (ps : List Tree) (next : Type 0) (d : Decision) → AreAllInLimit ps → next → OnAllGraphs names ps next d
within_all [] ps next d few h = h
within_all (n ∷ ns) [] next d few h = h
within_all (n ∷ ns) (p ∷ ps) next d few h = inr (first_in_limit p ps few, within_all ns ps next d (rest_in_limit p ps few) h)
