use Rattle.std.proofs.Common.{◌≡◌, take, map}
use Rattle.joint_view.proofs.choices.site_widths.Given as goal

abbrev pub invariant-loop-site : goal.invariant-loop-site
invariant-loop-site l = l.widths ≡ map (λ site. site.bits) (take l.site-index l.sites)
