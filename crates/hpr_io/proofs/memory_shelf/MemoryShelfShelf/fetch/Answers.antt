use Rattle.std.proofs.Common.{◌≡◌, ◌∙◌, Some, false, sym, ap, arith, length, length-take}
use Rattle.std.proofs.lemmas.Result.{IfOk-weaker}
use Rattle.std.specs.Option.{option_copied}
use Rattle.hpr_io.specs.Fakes.{stands_in}
use Rattle.hpr_io.specs.Files.{lookup}
use Rattle.hpr_io.proofs.FakeLemmas.{not_failed, memory_only}
use Rattle.hpr_io.proofs.memory_shelf.MemoryShelfShelf.fetch.Goals as goal

pub returns-in-Some-clause-failed : goal.returns-in-Some-clause-failed
returns-in-Some-clause-failed c =
    let off : c.contains.result ≡ false = c.if-not-contains.true in
    let idle : stands_in c.args.self.now.calls c.args.self.now.failing ≡ false = rw (← c.self.view_is) (cc) in
    let there : lookup c.args.self.now.files c.args.name.now ≡ Some c.in-Some.bytes.now =
    rw (← c.self.view_is) (rw (← c.as_slice.ensures.value) (sym c.file_bytes.ensures ∙ ap option_copied c.in-Some.is)) in
    not_failed _ c.args.self.now c.args.name.now c.in-Some.bytes.now idle there (memory_only c.front_of.result c.front_of.ensures.memory)

pub returns-in-Some-clause-short : goal.returns-in-Some-clause-short
returns-in-Some-clause-short c =
    IfOk-weaker c.front_of.result _ _ (λ v e. omega (arith, ap length e, length-take c.args.most c.in-Some.bytes.now)) c.front_of.ensures.front
