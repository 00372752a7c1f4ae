-- The contract of the depth check is made of equations whose right sides the tables determine. Assumes nothing.
use mathlib.Core.Path.{sym, ◌∙◌}
use Rattle.introspection.specs.MaxDepth.{DepthCheckDetermined}

pub depth_check_determined : DepthCheckDetermined
depth_check_determined T r r' h k = λ i. record {
  code = (h.code ∙ sym k.code) i;
  depth = (h.depth ∙ sym k.depth) i;
  place = (h.place ∙ sym k.place) i;
}
