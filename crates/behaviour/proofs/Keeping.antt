-- What the equation keeps, in one record. Assumes nothing.
use Rattle.std.proofs.Common.{◌≡◌, ℕ, ◌-◌, ◌<◌, Bool, true, false, cond, length, get_or, sym, refl, subst, arith}
use Rattle.std.proofs.lemmas.List.FromFn.{length-map-range_with_len}
use Rattle.source.specs.Models.{Model, process, param}
use Rattle.source.specs.Terms.{start_value}
use Rattle.source.specs.Sound.{Sound}
use Rattle.source.proofs.Mapped.{get_or_each}
use Rattle.behaviour.specs.Claims.{Keeps}
use Rattle.behaviour.proofs.Once.{fitted}
use Rattle.behaviour.proofs.Kept.{counted}
use Rattle.behaviour.proofs.Closes.{closes, term_in, terms_close}
use Rattle.behaviour.proofs.Follow.{start_stands, start_found}

start_small : (m : Model) (s : Sound m) (x : ℕ) → x < length m.sizes → start_value m x < get_or m.sizes x 0
start_small m s x l = go (param (process m m.begins) x) refl
  where
    go : (b : Bool) → param (process m m.begins) x ≡ b → cond b (get_or m.values (x - (process m m.begins).first) 0) 0 < get_or m.sizes x 0
    go true e = s.values x l e
    go false e = s.sizes x l

pub keeps : Keeps
keeps L m law fits s =
    let h = fitted L m fits s in
    record {
      same = λ v i f. counted L m law h s f v i.0;
      closed = closes L m law h s;
      terms_closed = terms_close L m law h s;
      starts = (
        (
          (omega arith, (start_found L m law h s).1, length-map-range_with_len _ 0 (length m.sizes)),
          λ x l. subst (λ n. n < get_or m.sizes x 0) (sym (get_or_each m (start_value m) x 0 l)) (start_small m s x l),
        ),
        term_in L m law h s (process m m.begins).body (start_value m) (start_found L m law h s) (λ x l. start_small m s x l),
        start_stands L m law h s,
      );
    }
