-- The laws of paths, by which code and other proofs use them.
use Rattle.std.proofs.Common.{◌≡◌, ℕ, zero, suc, ◌+◌, ◌≤◌, true, false, cond, ltb, List, [], ◌∷◌, ◌++◌, length, get_or, Some, None, Option, refl, ap, ◌∙◌, arith}
use Rattle.std.proofs.lemmas.Bool.{ltb-true}
use Rattle.std.proofs.lemmas.List.{length_push}
use Rattle.protocol.specs.declared.records.Message.{Message}
use Rattle.protocol.specs.Paths.{no_message, lower, prior, last_steps, bound, path, depth}

lower_bound : (m : ℕ) (o : Option ℕ) → bound (lower m o) ≤ m
lower_bound m None = omega arith
lower_bound m (Some p) =
    elim (ltb p m) as (λ b. ltb p m ≡ b → bound (cond b (Some p) None) ≤ m)
    [ true ↦ (λ h. omega (arith, ltb-true p m h)) | false ↦ (λ _. omega arith) ] refl

-- numbers fall along a path
pub prior_falls : (ms : List Message) (m : ℕ) → bound (prior ms m) ≤ m
prior_falls ms m = lower_bound m (get_or ms m no_message).precedent

-- more steps than the bound add nothing
enough_steps : (ms : List Message) (n k : ℕ) (o : Option ℕ) → bound o ≤ n → bound o ≤ k → last_steps n ms o ≡ last_steps k ms o
enough_steps ms zero zero o h l = refl
enough_steps ms zero (suc k) None h l = refl
enough_steps ms zero (suc k) (Some m) h l = absurd (omega arith)
enough_steps ms (suc n) zero None h l = refl
enough_steps ms (suc n) zero (Some m) h l = absurd (omega arith)
enough_steps ms (suc n) (suc k) None h l = refl
enough_steps ms (suc n) (suc k) (Some m) h l =
    let f = prior_falls ms m in
    ap (λ xs. xs ++ (m ∷ [])) (enough_steps ms n k (prior ms m) (omega arith) (omega arith))

pub path_none : (ms : List Message) → path ms None ≡ []
unfolding path
path_none ms = refl

-- the path of a message is the path of its precedent, then itself
pub path_some : (ms : List Message) (m : ℕ) → path ms (Some m) ≡ path ms (prior ms m) ++ (m ∷ [])
unfolding path
path_some ms m =
    let f = prior_falls ms m in
    ap (λ xs. xs ++ (m ∷ [])) (enough_steps ms m (bound (prior ms m)) (prior ms m) f (omega arith))

pub depth_none : (ms : List Message) → depth ms None ≡ 0
depth_none ms = ap length (path_none ms)

pub depth_some : (ms : List Message) (m : ℕ) → depth ms (Some m) ≡ depth ms (prior ms m) + 1
depth_some ms m = ap length (path_some ms m) ∙ length_push (path ms (prior ms m)) m

within_steps : (ms : List Message) (n : ℕ) (o : Option ℕ) → length (last_steps n ms o) ≤ n
within_steps ms zero o = omega arith
within_steps ms (suc n) None = omega arith
within_steps ms (suc n) (Some m) = omega (arith, within_steps ms n (prior ms m), length_push (last_steps n ms (prior ms m)) m)

-- no path is longer than its last number allows
pub depth_within : (ms : List Message) (o : Option ℕ) → depth ms o ≤ bound o
unfolding path
depth_within ms o = within_steps ms (bound o) o
