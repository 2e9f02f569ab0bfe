-- What stands at a point, as plain data.
--
-- role_of role == the role that the program keeps, as plain data
use Rattle.hpr_paths.specs.declared.spot.Role.{Role}
use Rattle.hpr_paths.specs.declared.spot.Role.TheVariants.{Enter, Part, Exit}
use Rattle.hpr_paths.specs.Spots as plain

abbrev pub role_of : Role → plain.Role
role_of Enter = plain.enter
role_of (Part t c) = plain.part t c
role_of (Exit finals) = plain.exit finals.items
