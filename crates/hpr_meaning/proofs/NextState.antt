-- What is read in a state behind a part.
use Rattle.std.proofs.Common.{◌≡◌, ℕ, List, Option, Some, None, refl}
use Rattle.hpr_syntax.specs.declared.rows.Content.{Content}
use Rattle.hpr_syntax.specs.Rows.{assigned}
use Rattle.hpr_meaning.specs.Any.Meaning.{Meaning, HasLaws, put_in, next}

module _ (M : Meaning) (LW : HasLaws M) where
  gives_in : (o : Option (List ℕ)) (v : M.Value) (s : M.State) (x : List ℕ) → o ≡ Some x → M.get (put_in M o v s) x ≡ v
  gives_in None v s x is = absurd cc
  gives_in (Some y) v s x is = let same : y ≡ x = cc in rw same (LW.set_gives s x v)

  keeps_in : (o : Option (List ℕ)) (v : M.Value) (s : M.State) (x : List ℕ) → ¬ (o ≡ Some x) → M.get (put_in M o v s) x ≡ M.get s x
  keeps_in None v s x n = refl
  keeps_in (Some y) v s x n = LW.set_keeps s x y v n

  pub next_gives : (c : Content) (v : M.Value) (s : M.State) (x : List ℕ) → assigned c ≡ Some x → M.get (next M c v s) x ≡ v
  next_gives c v s x is = gives_in (assigned c) v s x is

  pub next_keeps : (c : Content) (v : M.Value) (s : M.State) (x : List ℕ) → ¬ (assigned c ≡ Some x) → M.get (next M c v s) x ≡ M.get s x
  next_keeps c v s x n = keeps_in (assigned c) v s x n
