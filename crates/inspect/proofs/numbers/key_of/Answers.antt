use mathlib.Core.Path.{refl}
use native.Mathlib.Omega.{arith}
use Rattle.image.specs.Signed.{word_of}
use Rattle.inspect.proofs.Signs.{key_small, key_fits, near_key, far_fits, far_key}
use Rattle.inspect.proofs.numbers.key_of.Goals as goal

pub overflow_add-result : goal.overflow_add-result
overflow_add-result c = key_fits c.args.n c.requires

pub overflow_add-result-then-n-ltminus292 : goal.overflow_add-result-then-n-ltminus292
overflow_add-result-then-n-ltminus292 c = far_fits c.args.n c.requires c.if-n-ltminus292.true

pub overflow_cast-result : goal.overflow_cast-result
overflow_cast-result c = rw (far_key c.args.n c.requires c.if-n-ltminus292.true) (tt, record { fits = omega (arith, key_small (word_of c.args.n)) })

pub overflow_add-result-else-n-ltminus292 : goal.overflow_add-result-else-n-ltminus292
overflow_add-result-else-n-ltminus292 c = key_fits c.args.n c.requires

pub overflow_cast-result-else-n-ltminus292 : goal.overflow_cast-result-else-n-ltminus292
overflow_cast-result-else-n-ltminus292 c = rw (near_key c.args.n c.requires c.if-n-ltminus292.false) (tt, record { fits = omega (arith, key_small (word_of c.args.n)) })

pub returns-then-n-ltminus292 : goal.returns-then-n-ltminus292
returns-then-n-ltminus292 c = rw (far_key c.args.n c.requires c.if-n-ltminus292.true) (refl, key_small _)

pub returns-else-n-ltminus292 : goal.returns-else-n-ltminus292
returns-else-n-ltminus292 c = rw (near_key c.args.n c.requires c.if-n-ltminus292.false) (refl, key_small _)
