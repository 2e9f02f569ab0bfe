-- What a set of keys finds and adds.
use Rattle.std.proofs.Common.{◌≡◌, ℕ, ◌||◌, Bool, true, false, inl, inr, Some, List, [], ◌∷◌, ◌++◌, length, slice_get, if◌then◌else◌, refl, sym, ap, ◌∙◌, arith}
use Rattle.std.specs.List.{list_any, position_or_len}
use Rattle.std.proofs.lemmas.Map.Views.{list_any-from_Contains}
use Rattle.std.proofs.lemmas.Bool.{false≢true}
use Rattle.indexmap.specs.IndexSet.{insert_key}
use Rattle.hpr_conflicts.specs.declared.key.Key.{Key}
use Rattle.hpr_conflicts.specs.contracts.key.KeyPartialEq.TheImpl as eqs
use Rattle.hpr_conflicts.specs.contracts.key.KeyEq.TheImpl.Laws as eq_laws
use Rattle.hpr_conflicts.specs.Private.Placed.{IsPlaced}
use Rattle.hpr_conflicts.proofs.KeyEqual.{key_equal}

abbrev eq : Key → Key → Bool
eq = (eqs.ghosts).eq

neither : (a b : Bool) → (a || b) ≡ false → (a ≡ false) × (b ≡ false)
neither true b e = cc
neither false b e = (refl, e)

none_at : (p : Key → Bool) (ks : List Key) → list_any p ks ≡ false → position_or_len p ks ≡ length ks
none_at p [] e = refl
none_at p (k ∷ ks) e = let (here, later) = neither (p k) (list_any p ks) e in let rest : position_or_len p ks ≡ length ks = none_at p ks later in rw here (omega (arith, rest))

placed_by : (ks : List Key) (k : Key) (new : List Key) (n : ℕ) (b : Bool) → list_any (eq k) ks ≡ b → new ≡ insert_key eq ks k → n ≡ position_or_len (eq k) ks → slice_get new n ≡ Some k → IsPlaced ks k new n
placed_by ks k new n true any is at found = (found, inl (is ∙ ap (λ (b : Bool). if b then ks else ks ++ k ∷ []) any))
placed_by ks k new n false any is at found = (found, inr (is ∙ ap (λ (b : Bool). if b then ks else ks ++ k ∷ []) any, at ∙ none_at (eq k) ks any, λ has. false≢true (sym any ∙ list_any-from_Contains eq_laws.laws-law k ks has)))

pub placed : (ks : List Key) (k : Key) (new : List Key) (n : ℕ) → new ≡ insert_key eq ks k → n ≡ position_or_len (eq k) ks → (found : Key) → slice_get new n ≡ Some found → eq k found ≡ true → IsPlaced ks k new n
placed ks k new n is at found stored same = placed_by ks k new n (list_any (eq k) ks) refl is at (stored ∙ ap Some (sym (key_equal k found same)))
