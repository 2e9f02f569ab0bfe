use Rattle.std.proofs.Common.{refl, string_bytes}
use Rattle.hpr_kit.proofs.EndsLemmas.{file_written, taken_nothing}
use Rattle.hpr_kit.proofs.write.write_reply.Goals as goal

pub returns-in-Rewrites : goal.returns-in-Rewrites
returns-in-Rewrites g c =
    rw c.in-Rewrites.is (file_written _ _ _
    (record { file = string_bytes c.in-Rewrites.file; had = c.in-Rewrites.had.items; bytes = c.in-Rewrites.bytes.items })
    c.rewrite_file.result (refl, taken_nothing _)
    (rw c.as_str.ensures.value at (rw c.as_slice-in-Rewrites.ensures.value at (rw c.as_slice-in-Rewrites-2.ensures.value at c.rewrite_file.ensures))))
