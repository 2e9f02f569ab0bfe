use Rattle.std.proofs.Common.{◌≡◌, ◌∙◌, ◌≤◌, ◌+◌, ◌++◌, ℕ, Bool, true, false, List, Option, Result, Ok, Err, cond, length, take, ap, arith, length-take, subst, sym, true≢false, vec_len}
use Rattle.std.proofs.KnownBytes.{Consumes-trans}
use Rattle.std.proofs.lemmas.List.{take-append-le}
use Rattle.std.specs.Io.KnownBytes.{Consumes}
use Rattle.std.specs.Result.{is_err, is_ok}
use Rattle.hpr_system.proofs.read_front.Goals as goal

-- what was put behind the bytes is what the read consumed
put : {T E : Type 0} (r : Result T E) (a b c : Option (List ℕ)) (bytes new piece rest : List ℕ) (count : ℕ) → false ≡ is_err r
    → new ≡ cond (is_ok r) (bytes ++ take count (piece ++ rest)) bytes → count ≤ length piece → Consumes a b bytes → Consumes b c (take count piece) → Consumes a c new
put (Ok u) a b c bytes new piece rest count fine is within before after =
    subst (Consumes a c) (sym (is ∙ ap (λ more. bytes ++ more) (take-append-le count piece rest within))) (Consumes-trans a b c bytes (take count piece) before after)
put (Err e) a b c bytes new piece rest count fine is within before after = absurd (true≢false (sym fine))

fits : (is : Bool) (new old more most : ℕ) → new ≡ cond is (old + more) old → old + more ≤ most → new ≤ most
fits true new old more most e h = omega arith
fits false new old more most e h = omega arith

pub loop-buffer-preserved : goal.loop-buffer-preserved
loop-buffer-preserved g c = record {
  within = fits (is_ok c.extend_from_slice.result) _ (vec_len c.loop-buffer.bytes) _ c.args.most c.extend_from_slice.ensures.len (omega (arith, length-take {A = ℕ}, c.in-Ok.ensures.within));
  so_far = put c.extend_from_slice.result _ _ _ c.loop-buffer.bytes.items _ c.read_some.new.buffer _ c.in-Ok.count c.if-is_err.ensures.value c.extend_from_slice.ensures.items
      c.in-Ok.ensures.within c.loop-buffer.invariant.so_far c.in-Ok.ensures.bytes.0;
}

pub returns-in-Err-clause-front : goal.returns-in-Err-clause-front
returns-in-Err-clause-front g c = tt
