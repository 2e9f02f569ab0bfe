use Rattle.std.proofs.Common.{rules, ◌≡◌, ◌++◌, codes}
use Rattle.std.proofs.lemmas.Result.{on_ok_weaker}
use Rattle.hpr_syntax.specs.Print.{issued_text, body_text, joined}
use Rattle.hpr_print.proofs.Texts.{program_text}
use Rattle.hpr_print.proofs.program.put_program.Goals as goal

pub returns : goal.returns
returns c =
    let t = c.args.program.now in
    let out = c.args.out.now.items in
    let one : c.put_block.new.out.items ≡ ((out ++ codes "program\n") ++ issued_text t.issued) ++ body_text 0 t.body = search rules in
    let three : c.put_names.new.out.items ≡ c.put-2.new.out.items ++ joined t.finals = search rules in
    on_ok_weaker c.put-3.result
    (program_text t out c.put_block.new.out.items c.put-2.new.out.items c.put_names.new.out.items c.put-3.new.out.items one c.in_ok-put-2.ensures three)
    c.put-3.ensures
