use Rattle.avr_bytes.proofs.Runs.{image-bytes}
use Rattle.avr_bytes.proofs.keeping.images_are_flash.Goals as goal

pub returns : goal.returns
returns c = image-bytes
