use Rattle.std.proofs.Common.{◌∷◌, ap₂, refl}
use Rattle.command_line.proofs.subcommands.definitions.Goals as goal

pub returns : goal.returns
returns c = λ letters. ap₂ ◌∷◌ (c.definition.ensures.shape letters) (ap₂ ◌∷◌ (c.definition-2.ensures letters) (ap₂ ◌∷◌ (c.definition-3.ensures letters) (ap₂ ◌∷◌ (c.definition-4.ensures letters) (ap₂ ◌∷◌ (c.definition-5.ensures letters) (ap₂ ◌∷◌ (c.definition-6.ensures letters) (ap₂ ◌∷◌ (c.definition-7.ensures letters) (ap₂ ◌∷◌ (c.definition-8.ensures letters) (ap₂ ◌∷◌ (c.definition-9.ensures letters) (ap₂ ◌∷◌ (c.definition-10.ensures letters) refl)))))))))
