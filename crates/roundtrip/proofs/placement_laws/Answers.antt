use Rattle.formats.specs.Files.{placement_numbers}
use Rattle.formats.specs.Reading.{and_then, placement_head_of, placement_body_at}
use Rattle.roundtrip.specs.Laws.{LawfulPlacement}
use Rattle.roundtrip.proofs.Formats.{format}
use Rattle.roundtrip.proofs.Placements.{exact_placement}
use Rattle.roundtrip.proofs.placement_laws.Goals as goal

pub returns : goal.returns
returns c = format (λ file p. and_then (placement_head_of file p) (λ h q. placement_body_at h file q)) LawfulPlacement placement_numbers exact_placement
