-- `keep_masks`: the mask of a reference that names something is kept, and any other reference is passed.
use Rattle.std.proofs.Common.{arith}
use Rattle.std.proofs.lemmas.Grind.{common_steps}
use Rattle.derivation_check.proofs.FilesLaws.{both_files}
use Rattle.derivation_check.proofs.ParentLaws.{reference_steps}
use Rattle.derivation_check.proofs.files.Files.keep_masks.Goals.{then-is_named, else-is_named}
use Rattle.derivation_check.proofs.files.Files.keep_masks.Goals as goal

pub loop-reference-preserved : goal.loop-reference-preserved
loop-reference-preserved c =
    elim c.if-is_named.branch [
      | then-is_named w ↦ rw w.masks-is (record { room = grind (arith, common_steps); kept = λ r h named. grind (arith, common_steps, both_files, reference_steps) })
      | else-is_named w ↦ rw w.masks-is (record { room = grind (arith, common_steps); kept = λ r h named. grind (arith, common_steps, both_files) })
    ]
