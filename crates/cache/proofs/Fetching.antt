-- A tile that is visited: a hit, a fetch, or a refusal.
use Rattle.std.proofs.Common.{◌≡◌, ℕ, ◌+◌, ◌-◌, ◌*◌, ◌/◌, ◌%◌, ◌<◌, ◌≤◌, min, true, false, not, ◌⊎◌, List, ◌∷◌, length, take, drop, is_some, Some, None, Option, Ok, Err, Result, sym, refl, ap, ◌∙◌, subst, inl, inr, ⊎_elim, arith}
use Rattle.std.specs.List.{position}
use borrow.Rule.Slice.PartMut.{put_mid}
use Rattle.std.proofs.lemmas.List.{get_or-set_same, length-take-le, length-drop}
use Rattle.std.proofs.lemmas.Bool.{cond-true, cond-false, cases_lt}
use Rattle.picture.specs.declared.picture.Picture.{Ghosts}
use Rattle.pixel.specs.declared.kind.Kind as Kinds
use Rattle.pixel.specs.Ops.{Ops}
use Rattle.picture.specs.declared.fault.Refusal.{Refusal}
use Rattle.picture.specs.declared.rect.Rect.{Rect}
use Rattle.picture.specs.Refusals.{done, refused, outcome, number_of, values_of}
use Rattle.picture.specs.Places.{first_fault}
use Rattle.picture.specs.Images.{Image, Model}
use Rattle.picture.specs.Prepare.{up, area, nth, answer, filled, Prepared}
use Rattle.picture.proofs.Faults.{first_same}
use Rattle.cache.specs.declared.keeper.Keeper.{Keeper}
use Rattle.cache.specs.declared.held.Held.{Held}
use Rattle.cache.specs.declared.shape.TileShape.{TileShape}
use Rattle.cache.specs.declared.tile.Tile.{Tile}
use Rattle.cache.specs.declared.tiles.Tiles.{Tiles}
use Rattle.cache.specs.Machine.{State, Walk, going, ended, same, lists, missed, visited, Once}
use Rattle.cache.specs.Order.{none, slot_at, listed}
use Rattle.cache.specs.Grid.{Covers, tile_width, tile_nth, whole}
use Rattle.cache.specs.Slots.{base, state, again, entered, admitted, holding, Front, Ready}
use Rattle.cache.specs.Seen.{seen}
use Rattle.cache.specs.Caching.{state_of}
use Rattle.cache.specs.Visits.{walk_of, Went}
use Rattle.cache.proofs.Listing.{Listed, listed-hit, listed_miss, listed-fetched}
use Rattle.cache.proofs.Accounting.{gone, once_without, once_take}
use Rattle.cache.proofs.Pixels.{answered, refuses}
use Rattle.cache.proofs.Keeping.{long, spare, ready_again, ready_holding, ready_admitted, fresh, small_area, Kept}

-- states that differ in the list and below's count
stated : (ts ts' : List Tile) (h f y a a' : ℕ) → ts ≡ ts' → a ≡ a'
    → ◌≡◌ {A = State} (record { tiles = ts; hits = h; fetches = f; bypasses = y; asked = a }) (record { tiles = ts'; hits = h; fetches = f; bypasses = y; asked = a' })
stated ts ts' h f y a a' p q =
    ap (λ x. record { tiles = x; hits = h; fetches = f; bypasses = y; asked = a }) p ∙ ap (λ x. record { tiles = ts'; hits = h; fetches = f; bypasses = y; asked = x }) q

module _ {K S : Type 0} (o : Ops K S) (b : Image K) (s : TileShape) (t : Tiles) (ready : Ready o b s t) (x : Tile) where
  room : t.len ≤ length t.held
  room = omega (arith, long o b s t ready)

  hit_machine : (i asked : ℕ) → Listed t.held t.len x i → going (state (again t i) asked) ≡ visited s.slots (whole b s) (state t asked) x
  hit_machine i asked l = ap going (stated _ _ _ _ _ _ _ l.moved refl) ∙ sym (cond-true (lists (listed t.held t.len) x) _ _ l.lists)

  miss_machine : (w : Walk) (asked : ℕ) → lists (listed t.held t.len) x ≡ false → w ≡ missed s.slots (whole b s) (state t asked) x
      → w ≡ visited s.slots (whole b s) (state t asked) x
  miss_machine w asked h e = e ∙ sym (cond-false (lists (listed t.held t.len) x) _ _ h)

  fetch_list : (es : List ℕ) → listed (admitted s.slots x (holding t es)).held (admitted s.slots x (holding t es)).len ≡ take s.slots (x ∷ listed t.held t.len)
  fetch_list es =
      let new : (min (t.len + 1) s.slots ≡ t.len + 1) ⊎ ((min (t.len + 1) s.slots ≡ s.slots) × (t.len ≡ s.slots)) =
      ⊎_elim (λ (l : t.len < s.slots). inl (omega arith)) (λ (l : s.slots ≤ t.len). inr (omega (arith, ready.few), omega (arith, ready.few))) (cases_lt t.len s.slots) in
      listed-fetched t.held t.len x room (entered t x) s.slots (min (t.len + 1) s.slots) (long o b s t ready) ready.few refl new (omega arith)

  fetch_machine : (es : List ℕ) (asked asked' : ℕ) → asked' ≡ up asked → whole b s x ≡ true
      → going (state (admitted s.slots x (holding t es)) asked') ≡ missed s.slots (whole b s) (state t asked) x
  fetch_machine es asked asked' e w = ap going (stated _ _ _ _ _ _ _ (fetch_list es) e) ∙ sym (cond-true (whole b s x) _ _ w)

  refuse_machine : (es : List ℕ) (asked asked' : ℕ) → asked' ≡ up asked → whole b s x ≡ false
      → ended (state (holding t es) asked') ≡ missed s.slots (whole b s) (state t asked) x
  refuse_machine es asked asked' e w = ap ended (stated _ _ _ _ _ _ _ refl e) ∙ sym (cond-false (whole b s x) _ _ w)

  pub front_admitted : (es : List ℕ) (w : Tiles) → w ≡ admitted s.slots x (holding t es) → Front w x
  front_admitted es w is =
      let e = get_or-set_same t.held t.len (entered t x) none (long o b s t ready) in
      subst (λ v. Front v x) (sym is) (record { some = omega (arith, s.some); at = ap (λ (h : Held). h.tile) e })

  module _ (rect : Rect) (buf : List ℕ) (k : ℕ) (covers : Covers s b.width b.height x rect) (n : length buf ≡ k) (a : k ≡ area rect) where
    across : rect.left + rect.width ≤ b.width
    across = omega (arith, covers.left, covers.width, rect.wide)

    down : rect.top + rect.height ≤ b.height
    down = omega (arith, covers.top, covers.height, rect.high)

    whole_is : not (is_some (first_fault (nth b rect) (area rect))) ≡ whole b s x
    whole_is =
        let w = tile_width b s x in
        let p : (j : ℕ) → nth b rect j ≡ tile_nth b s x j = λ j.
        ap (λ q. b.at (rect.left + j % q) (rect.top + j / q)) covers.width ∙ ap (λ q. b.at (q + j % w) (rect.top + j / w)) covers.left
        ∙ ap (λ q. b.at (x.column * s.width + j % w) (q + j / w)) covers.top in
        ap (λ f. not (is_some f)) (first_same (nth b rect) (tile_nth b s x) (area rect) (λ j lt. p j)
        ∙ ap (λ q. first_fault (tile_nth b s x) (q * rect.height)) covers.width
        ∙ ap (λ q. first_fault (tile_nth b s x) (w * q)) covers.height)

    fetched_ok : (ys : List ℕ) → length ys ≡ k → done ≡ answer b rect (length buf) → ys ≡ filled o b rect buf
        → (whole b s x ≡ true) × Ready o b s (admitted s.slots x (holding t (put_mid (base (slot_at t.held t.len)) k t.entries ys)))
    fetched_ok ys m h e =
        let es : List ℕ = put_mid (base (slot_at t.held t.len)) k t.entries ys in
        let small : k ≤ 256 = omega (arith, small_area s b.width b.height x rect covers) in
        let w = answered o b rect buf across down (omega arith) ys h e in (
          sym whole_is ∙ ap (λ f. not (is_some f)) w.0,
          ready_admitted o b s (holding t es) (ready_holding o b s t ready k ys m small) x (fresh o b s t ready x rect covers k ys a m w.1),
        )

    fetched_err : (number : ℕ) (values : List ℕ) → refused number values ≡ answer b rect (length buf) → whole b s x ≡ false
    fetched_err number values h = sym whole_is ∙ ap not (refuses o b rect buf across down (omega arith) number values h)

pub none_of : (r : Option ℕ) → ((i : ℕ) → r ≡ Some i → ⊥) → r ≡ None
none_of None h = refl
none_of (Some i) h = absurd (h i refl)

-- the slots when these entries are written
abbrev pub wrote : Tiles → ℕ → ℕ → List ℕ → Tiles
wrote t start end ys = holding t (put_mid start (end - start) t.entries ys)

module _ {P K S : Type 0} {g : Ghosts P K S} {h : Kinds.Ghosts K S} (c : Keeper P K S g h) (x : Tile) where
  abbrev image : Image K
  image = (g.model c.below).shown

  abbrev visiting : State → Walk
  visiting st = visited c.shape.slots (whole image c.shape) st x

  abbrev place : Option ℕ
  place = position (λ t. same t x) (listed c.tiles.held c.tiles.len)

  -- the visit of a tile that is listed
  module _ (i : ℕ) (is : place ≡ Some i) where
    here : Listed c.tiles.held c.tiles.len x i
    here = listed-hit c.tiles.held c.tiles.len x (room h.ops image c.shape c.tiles c.ready x) i is

    pub within : i < 17
    within = omega (arith, here.below, c.ready.few, c.shape.few)

    pub kept_hit : (w : Tiles) → w ≡ again c.tiles i → Kept h.ops image c.shape w
    kept_hit w e =
        let ts = listed c.tiles.held c.tiles.len in
        subst (Kept h.ops image c.shape) (sym e) (record {
          ready = ready_again h.ops image c.shape c.tiles c.ready i here.below;
          once = subst Once (sym here.moved) (gone ts x c.once, once_without ts x c.once);
        })

    pub front_hit : (w : Tiles) → w ≡ again c.tiles i → Front w x
    front_hit w e = subst (λ v. Front v x) (sym e) (record { some = omega (arith, here.below); at = here.at })

    pub went_hit : (d : Keeper P K S g h) → d.below ≡ c.below → d.shape ≡ c.shape → d.tiles ≡ again c.tiles i → d.count ≡ c.count → Went g.model g.count visiting c (Ok tt) d
    went_hit d eb es et ec =
        record {
          machine = ap (λ p. going (state d.tiles (g.count p))) eb ∙ ap (λ t. going (state t (g.count c.below))) et ∙ hit_machine h.ops image c.shape c.tiles c.ready x i (g.count c.below) here;
          keeps = ap g.model eb;
          shape = es;
          counted = ec;
        }

-- the visit of a tile that is not listed: below was asked for its rectangle, to be put in the spare slot
pub record Asked {P K S : Type 0} {g : Ghosts P K S} {h : Kinds.Ghosts K S} (c : Keeper P K S g h) (x : Tile) (rect : Rect) (start end : ℕ) (q : P) (r : Result Unit Refusal) (ys : List ℕ) : Type 0 where
  pub absent : place c x ≡ None
  pub covers : Covers c.shape (image c x).width (image c x).height x rect
  pub begins : start ≡ base (slot_at c.tiles.held c.tiles.len)
  pub ends : end ≡ start + area rect
  pub prep : Prepared h.ops g.model g.count c.below rect (take (end - start) (drop start c.tiles.entries)) r q ys
  pub long : length ys ≡ length (take (end - start) (drop start c.tiles.entries))

module _ {P K S : Type 0} {g : Ghosts P K S} {h : Kinds.Ghosts K S} {c : Keeper P K S g h} {x : Tile} {rect : Rect} {start end : ℕ} {q : P} {r : Result Unit Refusal} {ys : List ℕ} (a : Asked c x rect start end q r ys) where
  not_listed : lists (listed c.tiles.held c.tiles.len) x ≡ false
  not_listed = listed_miss c.tiles.held c.tiles.len x (room h.ops (image c x) c.shape c.tiles c.ready x) a.absent

  fits : end ≤ length c.tiles.entries
  fits = omega (arith, a.begins, a.ends, spare h.ops (image c x) c.shape c.tiles c.ready, small_area c.shape (image c x).width (image c x).height x rect a.covers, c.ready.room)

  part_length : length (take (end - start) (drop start c.tiles.entries)) ≡ end - start
  part_length = length-take-le (end - start) (drop start c.tiles.entries) (omega (arith, length-drop start c.tiles.entries, fits))

  small : end - start ≤ 256
  small = omega (arith, a.ends, small_area c.shape (image c x).width (image c x).height x rect a.covers)

  kept_below : (w : Tiles) → Ready h.ops (image c x) c.shape w → Once (listed w.held w.len) → Kept h.ops (g.model q).shown c.shape w
  kept_below w r e = record { ready = subst (λ (i : Model K). Ready h.ops i.shown c.shape w) (sym a.prep.keeps) r; once = e }

  written : Ready h.ops (image c x) c.shape (wrote c.tiles start end ys)
  written =
      subst (λ n. Ready h.ops (image c x) c.shape (holding c.tiles (put_mid n (end - start) c.tiles.entries ys))) (sym a.begins) (ready_holding h.ops (image c x) c.shape c.tiles c.ready (end - start) ys (a.long ∙ part_length) small)

  pub kept_err : Kept h.ops (g.model q).shown c.shape (wrote c.tiles start end ys)
  kept_err = kept_below (wrote c.tiles start end ys) written c.once

  -- `b` is what the visit answers
  pub went_err : (e : Refusal) → r ≡ Err e → (b : Result Unit Refusal) → b ≡ Err e → (d : Keeper P K S g h) → d.below ≡ q → d.shape ≡ c.shape → d.tiles ≡ wrote c.tiles start end ys → d.count ≡ c.count
      → Went g.model g.count (visiting c x) c b d
  went_err e is b ea d eb eh et ec =
      let f = fetched_err h.ops (image c x) c.shape c.tiles c.ready x rect (take (end - start) (drop start c.tiles.entries)) (end - start) a.covers part_length (omega (arith, a.ends))
      (number_of e) (values_of e) (ap outcome (sym is) ∙ a.prep.answers) in
      record {
        machine = ap (λ w. walk_of w (state_of g.count (seen d))) ea ∙ ap (λ p. ended (state d.tiles (g.count p))) eb ∙ ap (λ t. ended (state t (g.count q))) et
            ∙ miss_machine h.ops (image c x) c.shape c.tiles c.ready x _ (g.count c.below) not_listed (refuse_machine h.ops (image c x) c.shape c.tiles c.ready x (wrote c.tiles start end ys).entries (g.count c.below) (g.count q) a.prep.counts f);
        keeps = ap g.model eb ∙ a.prep.keeps;
        shape = eh;
        counted = ec;
      }

  module _ (ok : r ≡ Ok tt) where
    full : (whole (image c x) c.shape x ≡ true) × Ready h.ops (image c x) c.shape (admitted c.shape.slots x (wrote c.tiles start end ys))
    full =
        let f = fetched_ok h.ops (image c x) c.shape c.tiles c.ready x rect (take (end - start) (drop start c.tiles.entries)) (end - start) a.covers part_length (omega (arith, a.ends)) ys (a.long ∙ part_length)
        (ap outcome (sym ok) ∙ a.prep.answers) a.prep.fills in
        (f.0, subst (λ n. Ready h.ops (image c x) c.shape (admitted c.shape.slots x (holding c.tiles (put_mid n (end - start) c.tiles.entries ys)))) (sym a.begins) f.1)

    pub kept_ok : (w : Tiles) → w ≡ admitted c.shape.slots x (wrote c.tiles start end ys) → Kept h.ops (g.model q).shown c.shape w
    kept_ok w e =
        let t = wrote c.tiles start end ys in
        let ts = listed c.tiles.held c.tiles.len in
        subst (Kept h.ops (g.model q).shown c.shape) (sym e) (kept_below (admitted c.shape.slots x t) full.1
        (subst Once (sym (fetch_list h.ops (image c x) c.shape c.tiles c.ready x t.entries)) (once_take c.shape.slots (x ∷ ts) (not_listed, c.once))))

    pub went_ok : (d : Keeper P K S g h) → d.below ≡ q → d.shape ≡ c.shape → d.tiles ≡ admitted c.shape.slots x (wrote c.tiles start end ys) → d.count ≡ c.count → Went g.model g.count (visiting c x) c (Ok tt) d
    went_ok d eb eh et ec =
        record {
          machine = ap (λ p. going (state d.tiles (g.count p))) eb ∙ ap (λ t. going (state t (g.count q))) et
              ∙ miss_machine h.ops (image c x) c.shape c.tiles c.ready x _ (g.count c.below) not_listed (fetch_machine h.ops (image c x) c.shape c.tiles c.ready x (wrote c.tiles start end ys).entries (g.count c.below) (g.count q) a.prep.counts full.0);
          keeps = ap g.model eb ∙ a.prep.keeps;
          shape = eh;
          counted = ec;
        }

    pub front_ok : (w : Tiles) → w ≡ admitted c.shape.slots x (wrote c.tiles start end ys) → Front w x
    front_ok w e = front_admitted h.ops (image c x) c.shape c.tiles c.ready x (wrote c.tiles start end ys).entries w e
