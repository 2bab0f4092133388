use Rattle.std.proofs.Common.{◌≡◌, ◌+◌, ◌-◌, ◌*◌, ◌/◌, ◌<◌, ◌≤◌, length, take, drop, Some, sym, ap, subst, ◌∙◌, arith}
use Rattle.std.proofs.lemmas.List.{length-drop, length-set, length-take, take_all, take_more_set}
use Rattle.linear.specs.Reading.{entries_from}
use Rattle.linear.proofs.Rows.{entries_more, entries_none}
use Rattle.linear_read.specs.Spots.{Spot}
use Rattle.linear_read.proofs.Chunks.{four_entry}
use Rattle.linear_read.proofs.reader.Reader.entries.Goals as goal

pub returns-in_err-items : goal.returns-in_err-items
returns-in_err-items c =
    let bytes = c.self.inside.bytes.now in
    let at = c.self.inside.at in
    let v = c.self.inside.variables in
    let k = c.loop-k.k in
    let m = at + 4 * v - at in
    let n = length (take m (drop at bytes)) / 4 in
    let long : length c.as_chunks.result.0.now ≡ n = c.as_chunks.ensures.front_len in
    let within : k < n = omega arith in
    let short : 4 * n ≤ m = omega (arith, length-take m (drop at bytes)) in
    let here = four_entry bytes at m n k c.as_chunks.result.0.now c.as_chunks.ensures.front within short in
    let none = sym here ∙ sym c.entry_at.ensures.answer ∙ c.in_err-items.was in
    record {
      answer =
          c.from_residual.ensures
          ∙ sym (entries_none bytes at v k (omega arith) none)
          ∙ ap (λ (s : Spot). entries_from s.bytes s.at s.variables) c.self.view_is;
    }

pub loop-k-preserved : goal.loop-k-preserved
loop-k-preserved c =
    let bytes = c.self.inside.bytes.now in
    let at = c.self.inside.at in
    let k = c.loop-k.k in
    let m = at + 4 * c.self.inside.variables - at in
    let n = length (take m (drop at bytes)) / 4 in
    let long : length c.as_chunks.result.0.now ≡ n = c.as_chunks.ensures.front_len in
    let within : k < n = omega arith in
    let short : 4 * n ≤ m = omega (arith, length-take m (drop at bytes)) in
    let here = four_entry bytes at m n k c.as_chunks.result.0.now c.as_chunks.ensures.front within short in
    let before = ap (λ (s : Spot). entries_from s.bytes s.at k) c.self.view_is ∙ c.loop-k.invariant.entries in
    let more = entries_more bytes at k _ _ before (sym here ∙ sym c.entry_at.ensures.answer ∙ c.in_ok-items.was) in
    let items = c.loop-k.items in
    let entry = c.in_ok-items.field-0 in
    let place : k < length items = omega (arith, c.loop-k.invariant.places, within, short, c.self.invariant.1) in
    record {
      places = length-set items k entry ∙ c.loop-k.invariant.places;
      entries = sym (ap (λ (s : Spot). entries_from s.bytes s.at (k + 1)) c.self.view_is) ∙ more ∙ ap Some (sym (take_more_set items k entry place));
    }

pub returns : goal.returns
returns c =
    let bytes = c.self.inside.bytes.now in
    let at = c.self.inside.at in
    let v = c.self.inside.variables in
    let items = c.loop-k.items in
    let room : at + 4 * v ≤ length bytes = subst (λ (s : Spot). s.at + 4 * s.variables ≤ length s.bytes) (sym c.self.view_is) c.requires.room in
    let m = at + 4 * v - at in
    let long : length c.as_chunks.result.0.now ≡ length (take m (drop at bytes)) / 4 = c.as_chunks.ensures.front_len in
    let ended : c.loop-k.k ≡ v = omega (arith, long, room, length-take m (drop at bytes), length-drop at bytes, c.loop-k-test.false) in
    let all : c.new.result ≡ take v items = c.new.ensures.answer ∙ take_all 16 (take v items) (omega (arith, length-take v items, c.loop-k.invariant.places)) in
    record {
      answer =
          ap Some (all ∙ ap (λ i. take i items) (sym ended))
          ∙ sym c.loop-k.invariant.entries
          ∙ ap (entries_from c.args.self.now.bytes c.args.self.now.at) (ended ∙ ap (λ (s : Spot). s.variables) c.self.view_is);
    }
