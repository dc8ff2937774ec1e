-- A reference that is handed on as it is ends as itself.
use Rattle.std.proofs.Common.{[], refl}
use seplogic.Ra.Ura.{Ura}
use base.Logic.{ent, wand, all, emp}
use base.Fml.{feq, fsep, fex, fres, fauth, GName, Fml}
use types.Logic.{Logic, sem}
use types.Kit.{‵, ◌$◌, ◌∵◌, !, qed, done, each, assume, feq_i, fjoin, fpack}
use denote.RattleType.{RattleType}
use denote.Follow.{follows}

module _ {M : Type 1} {𝓤 : Ura M} (𝓛 : Logic 𝓤) (R : RattleType) (γ : GName) where
  open 𝓛 use {A}

  abbrev Came : R.Denot → R.Denot → Fml
  Came z w = fsep (feq R.Denot z w) (fauth γ (R.coded.code w))

  learned : ent 𝓤 (emp 𝓤) (all 𝓤 (λ (w : R.Denot). wand 𝓤 (A.res γ (R.coded.code w)) (A.res γ (R.coded.code w))))
  learned = qed 𝓛 [] ∵ each ! (λ (w : R.Denot). wand 𝓤 (A.res γ (R.coded.code w)) (A.res γ (R.coded.code w))) (λ w. assume ! (‵ (fres γ (R.coded.code w))) $ done !)

  had : ent 𝓤 (emp 𝓤) (all 𝓤 (λ (z : R.Denot). wand 𝓤 (A.auth γ (R.coded.code z)) (sem 𝓛 (fex R.Denot (Came z)))))
  had = qed 𝓛 [] ∵ each ! (λ (z : R.Denot). wand 𝓤 (A.auth γ (R.coded.code z)) (sem 𝓛 (fex R.Denot (Came z)))) (λ z.
      assume ! (‵ (fauth γ (R.coded.code z))) $ feq_i ! R.Denot z z refl $ fjoin ! $ fpack ! R.Denot (Came z) z $ done !)

  pub follows_itself : ent 𝓤 (emp 𝓤) (sem 𝓛 (follows R R γ γ (λ w. w)))
  follows_itself = record { apply = λ a p. (learned.apply a p, had.apply a p) }
