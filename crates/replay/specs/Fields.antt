-- What of a line is still to be read.
use Rattle.std.specs.Prelude.{ℕ, ◌==◌, List, []}
use Rattle.std.specs.List.{slice_split}
use Rattle.std.specs.Option.{option_map_or}
use Rattle.replay.specs.declared.fields.Fields.{Fields}

-- the fields: what stands between spaces
abbrev pub left_of : Fields → List (List ℕ)
left_of fields = option_map_or (λ rest. slice_split (λ b. b == 32) rest.now) fields.rest []
