-- What holds of an answer, from what holds of its value or its refusal.
use Rattle.std.proofs.Common.{Result, Ok, Err, IfOk}
use Rattle.hpr_syntax.specs.declared.shape.ShapeError.{ShapeError}
use Rattle.hpr_text.specs.declared.reader.TextError.{TextError}
use Rattle.hpr_text.specs.declared.reader.TextError.TheVariants.{Syntax, Shape, Memory}
use Rattle.hpr_text.specs.Answers.{IfShape}

pub ok_both : {A E : Type 0} (P Q R : A → Type 0) (r : Result A E) → ((a : A) → P a → Q a → R a) → IfOk r P → IfOk r Q → IfOk r R
ok_both P Q R (Ok a) go h k = go a h k
ok_both P Q R (Err e) go h k = tt

pub shape_so : {A : Type 0} (P Q : ShapeError → Type 0) (r : Result A TextError) → ((e : ShapeError) → P e → Q e) → IfShape r P → IfShape r Q
shape_so P Q (Ok a) go h = tt
shape_so P Q (Err (Syntax n)) go h = tt
shape_so P Q (Err (Shape e)) go h = go e h
shape_so P Q (Err Memory) go h = tt
