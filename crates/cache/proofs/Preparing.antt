-- A prepare by tiles: what it answers, and what the machine has done.
use Rattle.std.proofs.Common.{◌≡◌, ℕ, ◌+◌, ◌-◌, ◌*◌, ◌/◌, ◌%◌, ◌<◌, ◌≤◌, true, false, ◌&&◌, leb, List, length, get_or, drop, Some, Ok, Result, sym, ap, ◌∙◌, subst, mul_comm, arith}
use Rattle.std.proofs.lemmas.Nat.{mul-add-lt, mod_below, div_below, div-add-mod'}
use Rattle.std.proofs.lemmas.List.{ext_get_or, get_or-drop, length-drop}
use Rattle.std.proofs.lemmas.Bool.{and_from, le-leb, cond-true, cond-false}
use Rattle.picture.specs.declared.picture.Picture.{Ghosts}
use Rattle.pixel.specs.declared.kind.Kind as Kinds
use Rattle.pixel.specs.Ops.{Ops}
use Rattle.picture.specs.declared.fault.Refusal.{Refusal}
use Rattle.picture.specs.declared.rect.Rect.{Rect}
use Rattle.picture.specs.Refusals.{done, outcome}
use Rattle.picture.specs.declared.fault.Refusal.{Refusal}
use Rattle.picture.specs.Images.{Image, Model}
use Rattle.picture.specs.Prepare.{up, area, inside, nth, answer, Shown, filled, Prepared}
use Rattle.picture.specs.Region.{Within}
use Rattle.cache.specs.declared.keeper.Keeper.{Keeper}
use Rattle.cache.specs.declared.shape.TileShape.{TileShape}
use Rattle.cache.specs.declared.tiles.Tiles.{Tiles}
use Rattle.cache.specs.Machine.{State, Walk, going, ended, settled, Accounts}
use Rattle.cache.specs.Order.{none}
use Rattle.cache.specs.Grid.{across, down}
use Rattle.cache.specs.Boxes.{spot, Beyond}
use Rattle.cache.specs.Slots.{state}
use Rattle.cache.specs.Walks.{over_tiles, Served}
use Rattle.cache.specs.Seen.{seen}
use Rattle.cache.specs.Caching.{prepared, state_of, model_of, Worked}
use Rattle.cache.proofs.Listing.{length-listed}
use Rattle.cache.proofs.Keeping.{long}
use Rattle.cache.proofs.Pixels.{serves, filled-over}
use Rattle.cache.proofs.Walking.{span_of}
use Rattle.cache.proofs.Accounting.{accounts_prepared, quiet_prepared}

beyond_drop : (rect : Rect) (was to : List ℕ) → length to ≡ length was → Beyond rect was to → drop (area rect) to ≡ drop (area rect) was
beyond_drop rect was to len h =
    ext_get_or 0 (drop (area rect) to) (drop (area rect) was) (length-drop (area rect) to ∙ ap (λ n. n - area rect) len ∙ sym (length-drop (area rect) was))
    (λ i lt. get_or-drop (area rect) to i 0 ∙ h (area rect + i) (omega arith) ∙ sym (get_or-drop (area rect) was i 0))

module _ {K S : Type 0} (o : Ops K S) (b : Image K) (s : TileShape) (rect : Rect) where
  -- a place is served by its number
  served_each : (to : List ℕ) → Served o b s rect to (across s rect * down s rect) → Shown o (nth b rect) (area rect) to
  served_each to h k lt =
      let w = rect.width in
      let col : k % w < w = mod_below k w rect.wide in
      let line : k / w < rect.height = div_below k w rect.height rect.wide (omega (arith, mul_comm rect.height w)) in
      let x = rect.left + k % w in
      let y = rect.top + k / w in
      let within : Within rect x y = record { left = omega arith; top = omega arith; right = omega arith; bottom = omega arith } in
      let sx = span_of rect.left w s.width x s.wide within.left within.right in
      let sy = span_of rect.top rect.height s.height y s.high within.top within.bottom in
      let index = mul-add-lt (y / s.height - rect.top / s.height) (across s rect) (x / s.width - rect.left / s.width) (down s rect) sy.0 sx.0 in
      let e : spot rect x y ≡ k =
      ap (λ n. n * w + (x - rect.left)) (omega arith) ∙ ap (λ n. k / w * w + n) (omega arith) ∙ div-add-mod' k w in
      h x y within index ∙ ap (λ n. Some (get_or to n 0)) e

  module _ (buf : List ℕ) (x : rect.left + rect.width ≤ b.width) (y : rect.top + rect.height ≤ b.height) (z : area rect ≤ length buf) where
    -- past the refusals 10 and 11
    past : (inside b rect && leb (area rect) (length buf)) ≡ true
    past = and_from _ _ (and_from _ _ (le-leb _ _ x) (le-leb _ _ y)) (le-leb _ _ z)

    machine : (w : Walk) (st : State) → w ≡ over_tiles b s rect st → settled w ≡ prepared b s rect (length buf) st
    machine w st e = ap settled e ∙ sym (cond-true (inside b rect && leb (area rect) (length buf)) _ _ past)

    by_tiles : (to : List ℕ) → length to ≡ length buf → Beyond rect buf to → Served o b s rect to (across s rect * down s rect)
        → (done ≡ answer b rect (length buf)) × (to ≡ filled o b rect buf)
    by_tiles to len beyond served = serves o b rect buf x y z to len (served_each to served) (beyond_drop rect buf to len beyond)

    by_below : (to : List ℕ) → length to ≡ length buf → Beyond rect buf to → filled o b rect to ≡ filled o b rect buf
    by_below to len beyond = filled-over o b rect buf x y z to len (beyond_drop rect buf to len beyond)

  module _ (buf : List ℕ) where
    -- refusals 10 and 11 change nothing
    halted : (inside b rect && leb (area rect) (length buf)) ≡ false → (buf ≡ filled o b rect buf) × ((st : State) → st ≡ prepared b s rect (length buf) st)
    halted h = (sym (cond-false (inside b rect && leb (area rect) (length buf)) _ _ h), λ st. sym (cond-false (inside b rect && leb (area rect) (length buf)) _ _ h))

-- the slots with another count of bypasses
abbrev pub counting : Tiles → ℕ → Tiles
counting t n = record { held = t.held; len = t.len; entries = t.entries; counts = record { hits = t.counts.hits; fetches = t.counts.fetches; bypasses = n } }

module _ {P K S : Type 0} {g : Ghosts P K S} {h : Kinds.Ghosts K S} (c : Keeper P K S g h) where
  abbrev image : Image K
  image = (g.model c.below).shown

  -- the laws of the machine, for a cache that does what the machine does
  worked : (d : Keeper P K S g h) (r : Rect) (n : ℕ) → d.shape ≡ c.shape → state_of g.count (seen d) ≡ prepared image c.shape r n (state_of g.count (seen c))
      → Worked g.model g.count (seen c) r n (seen d)
  worked d r n shape e =
      let st = state_of g.count (seen c) in
      record {
        shape = shape;
        machine = e;
        once = d.once;
        few = omega (arith, length-listed d.tiles.held d.tiles.len none.tile (omega (arith, long _ _ d.shape d.tiles d.ready)), d.ready.few, ap (λ (s : TileShape). s.slots) shape);
        accounts = subst (Accounts st) (sym e) (accounts_prepared image c.shape r n st);
        held = λ all. ap (λ (v : State). v.asked) e ∙ quiet_prepared image c.shape r n st all;
      }

  abbrev Both : Rect → List ℕ → Keeper P K S g h → Result Unit Refusal → List ℕ → Type 0
  Both r buf d a after = record { prepared : Prepared h.ops (λ v. model_of g.model (seen v)) (λ v. v.count) c r buf a d after; worked : Worked g.model g.count (seen c) r (length buf) (seen d) }

  -- refused with 10 or 11
  pub refused_so : (r : Rect) (buf : List ℕ) (d : Keeper P K S g h) → d.count ≡ up c.count → d.shape ≡ c.shape → g.model d.below ≡ g.model c.below → state_of g.count (seen d) ≡ state_of g.count (seen c)
      → (a : Result Unit Refusal) → (outcome a ≡ answer image r (length buf)) × (buf ≡ filled h.ops image r buf) × ((st : State) → st ≡ prepared image c.shape r (length buf) st)
      → Both r buf d a buf
  refused_so r buf d counted shape keeps same a f =
      record {
        prepared = record { answers = f.0; fills = f.1; counts = counted; keeps = keeps };
        worked = worked d r (length buf) shape (same ∙ f.2 (state_of g.count (seen c)));
      }

  module _ (r : Rect) (buf : List ℕ) (x : r.left + r.width ≤ image.width) (y : r.top + r.height ≤ image.height) (z : area r ≤ length buf) (to : List ℕ) (len : length to ≡ length buf) (beyond : Beyond r buf to) where
    -- served by tiles
    pub served_so : (d : Keeper P K S g h) → d.count ≡ up c.count → d.shape ≡ c.shape → g.model d.below ≡ g.model c.below → going (state_of g.count (seen d)) ≡ over_tiles image c.shape r (state_of g.count (seen c))
        → Served h.ops image c.shape r to (across c.shape r * down c.shape r) → Both r buf d (Ok tt) to
    served_so d counted shape keeps e served =
        let f = by_tiles h.ops image c.shape r buf x y z to len beyond served in
        record {
          prepared = record { answers = f.0; fills = f.1; counts = counted; keeps = keeps };
          worked = worked d r (length buf) shape (machine h.ops image c.shape r buf x y z (going (state_of g.count (seen d))) (state_of g.count (seen c)) e);
        }

    -- passed on below, by a cache that has walked
    pub passed_so : (d e : Keeper P K S g h) → d.count ≡ up c.count → d.shape ≡ c.shape → g.model e.below ≡ g.model c.below → ended (state_of g.count (seen e)) ≡ over_tiles image c.shape r (state_of g.count (seen c))
        → d.tiles ≡ counting e.tiles (up e.tiles.counts.bypasses) → (a : Result Unit Refusal) (after : List ℕ) → Prepared h.ops g.model g.count e.below r to a d.below after → Both r buf d a after
    passed_so d e counted shape keeps ends tiles a after prep =
        let st = ap (λ t. state t (g.count d.below)) tiles ∙ ap (λ n. state (counting e.tiles (up e.tiles.counts.bypasses)) n) prep.counts
        ∙ machine h.ops image c.shape r buf x y z (ended (state_of g.count (seen e))) (state_of g.count (seen c)) ends in
        record {
          prepared = record {
            answers = prep.answers ∙ ap (λ (i : Model K). answer i.shown r (length to)) keeps ∙ ap (answer image r) len;
            fills = prep.fills ∙ ap (λ (i : Model K). filled h.ops i.shown r to) keeps ∙ by_below h.ops image c.shape r buf x y z to len beyond;
            counts = counted;
            keeps = prep.keeps ∙ keeps;
          };
          worked = worked d r (length buf) shape st;
        }
