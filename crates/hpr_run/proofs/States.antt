-- A map of names against the ordered map that keeps it.
use Rattle.std.proofs.Common.{◌≡◌, ℕ, List, [], ◌∷◌, ◌++◌, refl, sym, ap, subst, ◌∙◌, Bool, true, false, cond, Some}
use Rattle.std.specs.Map.{lookup}
use Rattle.std.specs.BTreeMap.{is_at}
use Rattle.std.specs.Ordering.{nat_cmp, eq_by_cmp}
use Rattle.std.specs.Cmp.{eq_by_cmp_equiv}
use Rattle.std.specs.Cmp.Lexicographic.{slice_cmp, nat_list_cmp_total}
use Rattle.std.specs.FinMap.{empty, find, get, insert, get-insert, get-from_entries, from_entries, same_map, nat_cmp-IsAntisymmetric, slice_cmp-IsAntisymmetric}
use Rattle.hpr_syntax.specs.declared.value.Value.{Value}
use Rattle.hpr_syntax.specs.Values.{Values}
use Rattle.hpr_syntax.specs.Run.{FinalValues}
use Rattle.hpr_syntax.proofs.StateLaws.{tied}

module _ {V : Type 0} where
  find-lookup : (q : List ℕ) (es : List (List ℕ × V)) → find (slice_cmp nat_cmp) q es ≡ lookup (is_at (slice_cmp nat_cmp q)) es
  find-lookup q [] = refl
  find-lookup q (e ∷ es) = ap (λ o. cond (eq_by_cmp (slice_cmp nat_cmp) q e.0) (Some e.1) o) (find-lookup q es)

  pub get-entries_of : (q : List ℕ) (es : List (List ℕ × V)) → get (from_entries {R = slice_cmp nat_cmp} es) q ≡ lookup (is_at (slice_cmp nat_cmp q)) es
  get-entries_of q es = get-from_entries nat_list_cmp_total es q ∙ find-lookup q es

  pub insert-entries_of : (es fs : List (List ℕ × V)) (k : List ℕ) (v : V) →
      ((q : List ℕ) → lookup (is_at (slice_cmp nat_cmp q)) fs ≡ cond (is_at (slice_cmp nat_cmp k) q) (Some v) (lookup (is_at (slice_cmp nat_cmp q)) es)) →
      from_entries {R = slice_cmp nat_cmp} fs ≡ insert (from_entries es) k v
  insert-entries_of es fs k v h =
      same_map nat_list_cmp_total (slice_cmp-IsAntisymmetric nat_cmp-IsAntisymmetric) _ _ (λ q.
      let a = get-entries_of q fs in
      let b = get-entries_of q es in
      let c = get-insert nat_list_cmp_total (from_entries {R = slice_cmp nat_cmp} es) k v q in
      let d : eq_by_cmp (slice_cmp nat_cmp) k q ≡ eq_by_cmp (slice_cmp nat_cmp) q k = (eq_by_cmp_equiv nat_list_cmp_total).symm k q in
      a ∙ h q ∙ rw (c, b, d) refl)

  -- a value put where it was already
  pub kept-entries_of : (es fs : List (List ℕ × V)) (k : List ℕ) (v : V) → lookup (is_at (slice_cmp nat_cmp k)) es ≡ Some v →
      ((q : List ℕ) → lookup (is_at (slice_cmp nat_cmp q)) fs ≡ cond (is_at (slice_cmp nat_cmp k) q) (Some v) (lookup (is_at (slice_cmp nat_cmp q)) es)) →
      from_entries {R = slice_cmp nat_cmp} fs ≡ from_entries es
  kept-entries_of es fs k v old h =
      same_map nat_list_cmp_total (slice_cmp-IsAntisymmetric nat_cmp-IsAntisymmetric) _ _ (λ q.
      get-entries_of q fs ∙ h q ∙ as_before q (is_at (slice_cmp nat_cmp k) q) refl ∙ sym (get-entries_of q es))
    where
      as_before : (q : List ℕ) (b : Bool) → is_at (slice_cmp nat_cmp k) q ≡ b → cond b (Some v) (lookup (is_at (slice_cmp nat_cmp q)) es) ≡ lookup (is_at (slice_cmp nat_cmp q)) es
      as_before q true e = subst (λ (x : List ℕ). Some v ≡ lookup (is_at (slice_cmp nat_cmp x)) es) (tied k q e) (sym old)
      as_before q false e = refl

-- the entries put into a state, the last one first
abbrev pub onto : FinalValues → Values → Values
onto [] m = m
onto (e ∷ es) m = insert (onto es m) e.0 e.1

pub onto_empty : (es : FinalValues) → onto es empty ≡ from_entries es
onto_empty [] = refl
onto_empty (e ∷ es) = ap (λ m. insert m e.0 e.1) (onto_empty es)

pub onto_last : (es : FinalValues) (e : List ℕ × Value) (m : Values) → onto (es ++ e ∷ []) m ≡ onto es (insert m e.0 e.1)
onto_last [] e m = refl
onto_last (d ∷ es) e m = ap (λ n. insert n d.0 d.1) (onto_last es e m)
