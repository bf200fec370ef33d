-- The walk over the tiles that a rectangle touches.
use Rattle.std.proofs.Common.{◌≡◌, ℕ, zero, suc, ◌+◌, ◌-◌, ◌*◌, ◌/◌, ◌%◌, ◌<◌, ◌≤◌, Bool, List, get_or, drop, Some, Ok, Err, Result, sym, ap, ◌∙◌, subst, ⊎_elim, add-zero, add-suc, mul-le-mul_right, mul_comm, mul-one, one-mul, mul-add, add-mul, div-mul-le_self, add-one, arith}
use native.Mathlib.Nat.{lt-mul-div-succ}
use Rattle.std.proofs.lemmas.Nat.{div-mul-add, mod-mul-add, mul-add-lt, le-div}
use Rattle.std.proofs.lemmas.List.{get_or-drop}
use Rattle.std.proofs.lemmas.Bool.{cases_eq}
use Rattle.picture.specs.declared.picture.Picture.{Ghosts}
use Rattle.pixel.specs.declared.kind.Kind as Kinds
use Rattle.pixel.specs.Ops.{Ops}
use Rattle.picture.specs.declared.rect.Rect.{Rect}
use Rattle.picture.specs.Images.{Image, Model}
use Rattle.picture.specs.Prepare.{coded}
use Rattle.picture.specs.Region.{Within}
use Rattle.picture.specs.declared.fault.Refusal.{Refusal}
use Rattle.cache.specs.declared.keeper.Keeper.{Keeper}
use Rattle.cache.specs.declared.held.Held.{Held}
use Rattle.cache.specs.declared.shape.TileShape.{TileShape}
use Rattle.cache.specs.declared.tile.Tile.{Tile}
use Rattle.cache.specs.declared.tiles.Tiles.{Tiles}
use Rattle.cache.specs.Machine.{State, Walk, going, ended, visited, stepped, walked}
use Rattle.cache.specs.Order.{none, slot_at}
use Rattle.cache.specs.Grid.{Covers, whole, tile_width, tile_height, span, across, down, touched}
use Rattle.cache.specs.Boxes.{spot, Beyond, Overlaid}
use Rattle.cache.specs.Slots.{base, Front, Good, Ready}
use Rattle.cache.specs.Walks.{Served}
use Rattle.cache.specs.Seen.{seen}
use Rattle.cache.specs.Caching.{state_of}
use Rattle.cache.specs.Visits.{walk_of, Went}

-- in a picture of the same size
pub covers_in : (s : TileShape) (W H W' H' : ℕ) (x : Tile) (rect : Rect) → W ≡ W' → H ≡ H' → Covers s W H x rect → Covers s W' H' x rect
covers_in s W H W' H' x rect p q h = subst (λ w. Covers s w H' x rect) p (subst (λ v. Covers s W v x rect) q h)

pub div_up : (d a b : ℕ) → 0 < d → a ≤ b → a / d ≤ b / d
div_up d a b pos le = le-div (a / d) b d pos (omega (arith, div-mul-le_self a d))

-- a tile that is touched begins before the last place
span_in : (from size side i : ℕ) → 1 ≤ size → 1 ≤ side → i < span from size side → (from / side + i) * side < from + size
span_in from size side i some pos lt =
    let q = (from + size - 1) / side in
    let up : from / side ≤ q = div_up side from (from + size - 1) pos (omega arith) in
    let le : from / side + i ≤ q = omega arith in
    omega (arith, mul-le-mul_right side le, div-mul-le_self (from + size - 1) side)

-- and the tile of each place is touched
pub span_of : (from size side x : ℕ) → 1 ≤ side → from ≤ x → x < from + size → (x / side - from / side < span from size side) × (from / side ≤ x / side)
span_of from size side x pos le lt =
    let low : from / side ≤ x / side = div_up side from x pos le in
    let high : x / side ≤ (from + size - 1) / side = div_up side x (from + size - 1) pos (omega arith) in
    (omega arith, low)

-- the tile of a place
div_in : (x side c : ℕ) → 1 ≤ side → x / side ≡ c → (c * side ≤ x) × (x < c * side + side)
div_in x side c pos e =
    let m = ap (λ q. q * side) e in
    let n = lt-mul-div-succ x {b = side} pos in (
      omega (arith, div-mul-le_self x side),
      omega (arith, n, mul-add side (x / side) 1, mul-one side, mul_comm side (x / side)),
    )

in_div : (x side c : ℕ) → c * side ≤ x → x < c * side + side → x / side ≡ c
in_div x side c le lt =
    let e : c * side + (x - c * side) ≡ x = omega arith in
    ap (λ n. n / side) (sym e) ∙ div-mul-add c side (x - c * side) (omega arith)

module _ (slots : ℕ) (whole : Tile → Bool) (f : ℕ → Tile) (s : State) where
  walk_more : (n : ℕ) (st : State) (w : Walk) → walked slots whole f n s ≡ going st → w ≡ visited slots whole st (f n) → walked slots whole f (n + 1) s ≡ w
  walk_more n st w e h = ap (λ m. walked slots whole f m s) (add-one n) ∙ ap (λ v. stepped slots whole v (f n)) e ∙ sym h

  walk_stays : (n d : ℕ) (st : State) → walked slots whole f n s ≡ ended st → walked slots whole f (n + d) s ≡ ended st
  walk_stays n zero st e = ap (λ m. walked slots whole f m s) (add-zero n) ∙ e
  walk_stays n (suc d) st e = ap (λ m. walked slots whole f m s) (add-suc n d) ∙ ap (λ v. stepped slots whole v (f (n + d))) (walk_stays n d st e)

  walk_ends : (n m : ℕ) (st : State) → n ≤ m → walked slots whole f n s ≡ ended st → walked slots whole f m s ≡ ended st
  walk_ends n m st le e =
      let q : n + (m - n) ≡ m = omega arith in
      ap (λ k. walked slots whole f k s) (sym q) ∙ walk_stays n (m - n) st e

-- the walk of a cache c, which has become d and then e
module _ {P K S : Type 0} {g : Ghosts P K S} {h : Kinds.Ghosts K S} (f : ℕ → Tile) (c : Keeper P K S g h) where
  abbrev pub sofar : ℕ → State → Walk
  sofar k = walked c.shape.slots (whole (g.model c.below).shown c.shape) f k

  pub went_more : (d e : Keeper P K S g h) (k : ℕ) (x : Tile) (r : Result Unit Refusal) → x ≡ f k → Went g.model g.count (sofar k) c (Ok tt) d
      → Went g.model g.count (λ st. visited d.shape.slots (whole (g.model d.below).shown d.shape) st x) d r e → Went g.model g.count (sofar (k + 1)) c r e
  went_more d e k x r is a h =
      let b = (g.model c.below).shown in
      let st = state_of g.count (seen d) in
      let m : walk_of r (state_of g.count (seen e)) ≡ visited c.shape.slots (whole b c.shape) st (f k) =
      h.machine ∙ ap (λ (s : TileShape). visited s.slots (whole (g.model d.below).shown s) st x) a.shape
      ∙ ap (λ (n : Model K). visited c.shape.slots (whole n.shown c.shape) st x) a.keeps ∙ ap (visited c.shape.slots (whole b c.shape) st) is in
      record {
        machine = sym (walk_more c.shape.slots (whole b c.shape) f (state_of g.count (seen c)) k st (walk_of r (state_of g.count (seen e))) (sym a.machine) m);
        keeps = h.keeps ∙ a.keeps;
        shape = h.shape ∙ a.shape;
        counted = h.counted ∙ a.counted;
      }

  pub went_ended : (e : Keeper P K S g h) (k n : ℕ) (r a : Result Unit Refusal) (z : Refusal) → r ≡ Err z → a ≡ Err z → k ≤ n → Went g.model g.count (sofar k) c r e → Went g.model g.count (sofar n) c a e
  went_ended e k n r a z er ea le h =
      let m : ended (state_of g.count (seen e)) ≡ sofar k (state_of g.count (seen c)) = ap (λ w. walk_of w (state_of g.count (seen e))) (sym er) ∙ h.machine in
      record {
        machine = ap (λ w. walk_of w (state_of g.count (seen e))) ea ∙ sym (walk_ends c.shape.slots (whole (g.model c.below).shown c.shape) f (state_of g.count (seen c)) k n (state_of g.count (seen e)) le (sym m));
        keeps = h.keeps;
        shape = h.shape;
        counted = h.counted;
      }

module _ {K S : Type 0} (o : Ops K S) (b : Image K) (s : TileShape) where
  -- a slot that holds its tile, place by place
  held_at : (entries : List ℕ) (h : Held) (t : Tile) (cell : Rect) → Good o b s entries h → h.tile ≡ t → Covers s b.width b.height t cell
      → (x y : ℕ) → Within cell x y → coded o (b.at x y) ≡ Some (get_or entries (base h.slot + spot cell x y) 0)
  held_at entries h t cell good at covers x y w =
      let ec : h.tile.column * s.width ≡ cell.left = ap (λ (n : Tile). n.column * s.width) at ∙ sym covers.left in
      let er : h.tile.row * s.height ≡ cell.top = ap (λ (n : Tile). n.row * s.height) at ∙ sym covers.top in
      let ew : tile_width b s h.tile ≡ cell.width = ap (tile_width b s) at ∙ sym covers.width in
      let eh : tile_height b s h.tile ≡ cell.height = ap (tile_height b s) at ∙ sym covers.height in
      let dx : x - cell.left < tile_width b s h.tile = subst (λ n. x - cell.left < n) (sym ew) (omega (arith, w.left, w.right)) in
      let dy : y - cell.top < tile_height b s h.tile = subst (λ n. y - cell.top < n) (sym eh) (omega (arith, w.top, w.bottom)) in
      let px : h.tile.column * s.width + (x - cell.left) ≡ x = ap (λ n. n + (x - cell.left)) ec ∙ omega (arith, w.left) in
      let py : h.tile.row * s.height + (y - cell.top) ≡ y = ap (λ n. n + (y - cell.top)) er ∙ omega (arith, w.top) in
      ap (λ n. coded o (b.at n y)) (sym px) ∙ ap (λ n. coded o (b.at (h.tile.column * s.width + (x - cell.left)) n)) (sym py)
      ∙ good (x - cell.left) (y - cell.top) dx dy
      ∙ ap (λ n. Some (get_or entries (base h.slot + ((y - cell.top) * n + (x - cell.left))) 0)) ew

  module _ (rect : Rect) (in-x : rect.left + rect.width ≤ b.width) (in-y : rect.top + rect.height ≤ b.height) where
    -- one more tile is served
    pub served_more : (t : Tiles) (k : ℕ) (c : Tile) (cell : Rect) (was to : List ℕ) → Ready o b s t → c ≡ touched s rect k → Front t c → Covers s b.width b.height c cell
        → Overlaid (drop (base (slot_at t.held 0)) t.entries) cell rect was to → Served o b s rect was k → Served o b s rect to (k + 1)
    served_more t k c cell was to ready e front covers over served x y w lt =
        let X = x / s.width in
        let Y = y / s.height in
        let sx = span_of rect.left rect.width s.width x s.wide w.left w.right in
        let sy = span_of rect.top rect.height s.height y s.high w.top w.bottom in
        let i = (Y - rect.top / s.height) * across s rect + (X - rect.left / s.width) in
        let away : (Within cell x y → ⊥) → (i ≡ k → ⊥) → coded o (b.at x y) ≡ Some (get_or to (spot rect x y) 0) = λ no-in not-k.
        served x y w (omega arith) ∙ ap Some (sym (over.outside x y no-in w)) in
        let column : i ≡ k → X ≡ c.column = λ q.
        let m : k % across s rect ≡ X - rect.left / s.width = ap (λ n. n % across s rect) (sym q) ∙ mod-mul-add (Y - rect.top / s.height) (across s rect) (X - rect.left / s.width) sx.0 in
        let ce : c.column ≡ rect.left / s.width + k % across s rect = ap (λ (v : Tile). v.column) e in
        omega (arith, sx.1) in
        let row : i ≡ k → Y ≡ c.row = λ q.
        let m : k / across s rect ≡ Y - rect.top / s.height = ap (λ n. n / across s rect) (sym q) ∙ div-mul-add (Y - rect.top / s.height) (across s rect) (X - rect.left / s.width) sx.0 in
        let re : c.row ≡ rect.top / s.height + k / across s rect = ap (λ (v : Tile). v.row) e in
        omega (arith, sy.1) in
        ⊎_elim
        (λ (ex : X ≡ c.column).
        ⊎_elim
        (λ (ey : Y ≡ c.row).
        let dx = div_in x s.width c.column s.wide ex in
        let dy = div_in y s.height c.row s.high ey in
        let wc : Within cell x y = record {
          left = omega (arith, covers.left, dx.0);
          top = omega (arith, covers.top, dy.0);
          right = omega (arith, covers.left, covers.width, dx.1, w.right);
          bottom = omega (arith, covers.top, covers.height, dy.1, w.bottom);
        } in
        held_at t.entries (get_or t.held 0 none) c cell (ready.good 0 front.some) front.at covers x y wc
        ∙ ap Some (sym (over.inside x y wc w ∙ get_or-drop (base (slot_at t.held 0)) t.entries (spot cell x y) 0)))
        (λ (ny : Y ≡ c.row → ⊥).
        away (λ wc. ny (in_div y s.height c.row (omega (arith, covers.top, wc.top)) (omega (arith, covers.top, covers.height, wc.bottom)))) (λ q. ny (row q)))
        (cases_eq Y c.row))
        (λ (nx : X ≡ c.column → ⊥).
        away (λ wc. nx (in_div x s.width c.column (omega (arith, covers.left, wc.left)) (omega (arith, covers.left, covers.width, wc.right)))) (λ q. nx (column q)))
        (cases_eq X c.column)

-- a tile's number among those that are touched
abbrev pub number : TileShape → Rect → ℕ → ℕ → ℕ
number s rect column row = (row - rect.top / s.height) * across s rect + (column - rect.left / s.width)

-- a tile that is touched begins in the picture, and it is the machine's
pub record Touched (s : TileShape) (rect : Rect) (x : Tile) : Type 0 where
  pub left : x.column * s.width < rect.left + rect.width
  pub top : x.row * s.height < rect.top + rect.height
  pub is : x ≡ touched s rect (number s rect x.column x.row)
  pub next : number s rect x.column x.row + 1 ≤ across s rect * down s rect

pub touches : (s : TileShape) (rect : Rect) (x : Tile) → rect.left / s.width ≤ x.column → x.column < rect.left / s.width + across s rect
    → rect.top / s.height ≤ x.row → x.row < rect.top / s.height + down s rect → Touched s rect x
touches s rect x ll lr tl tr =
    let a = across s rect in
    let i = x.column - rect.left / s.width in
    let j = x.row - rect.top / s.height in
    let il : i < a = omega arith in
    let jl : j < down s rect = omega arith in
    let ci : rect.left / s.width + i ≡ x.column = omega arith in
    let rj : rect.top / s.height + j ≡ x.row = omega arith in
    record {
      left = subst (λ n. n * s.width < rect.left + rect.width) ci (span_in rect.left rect.width s.width i rect.wide s.wide il);
      top = subst (λ n. n * s.height < rect.top + rect.height) rj (span_in rect.top rect.height s.height j rect.high s.high jl);
      is = ap (λ n. record { column = n; row = x.row }) (sym ci ∙ ap (λ n. rect.left / s.width + n) (sym (mod-mul-add j a i il)))
          ∙ ap (λ n. record { column = rect.left / s.width + (j * a + i) % a; row = n }) (sym rj ∙ ap (λ n. rect.top / s.height + n) (sym (div-mul-add j a i il)));
      next = omega (arith, mul-add-lt j a i (down s rect) jl il, mul_comm (down s rect) a);
    }

pub row_done : (s : TileShape) (rect : Rect) (column row : ℕ) → column ≡ rect.left / s.width + across s rect → rect.top / s.height ≤ row
    → number s rect column row ≡ number s rect (rect.left / s.width) (row + 1)
row_done s rect column row e le =
    let j = row - rect.top / s.height in
    let f : row + 1 - rect.top / s.height ≡ j + 1 = omega arith in
    omega (arith, ap (λ n. n * across s rect) f, add-mul j 1 (across s rect), one-mul (across s rect))

pub all_done : (s : TileShape) (rect : Rect) (row : ℕ) → row ≡ rect.top / s.height + down s rect → number s rect (rect.left / s.width) row ≡ across s rect * down s rect
all_done s rect row e =
    let f : row - rect.top / s.height ≡ down s rect = omega arith in
    omega (arith, ap (λ n. n * across s rect) f, mul_comm (down s rect) (across s rect))

-- the walk of a cache c, which has become d behind the first n tiles, where `to` holds what they gave
module _ {P K S : Type 0} {g : Ghosts P K S} {h : Kinds.Ghosts K S} (rect : Rect) (c : Keeper P K S g h) (was : List ℕ) where
  pub record Sofar (n : ℕ) (d : Keeper P K S g h) (to : List ℕ) : Type 0 where
    pub went : Went g.model g.count (sofar (touched c.shape rect) c n) c (Ok tt) d
    pub served : Served h.ops (g.model c.below).shown c.shape rect to n
    pub rest : Beyond rect was to

  module _ (in-x : rect.left + rect.width ≤ (g.model c.below).shown.width) (in-y : rect.top + rect.height ≤ (g.model c.below).shown.height) where
    -- one more tile
    pub further : (n m : ℕ) → m ≡ n + 1 → (d e : Keeper P K S g h) (x : Tile) (cell : Rect) (to part after : List ℕ) → Sofar n d to → x ≡ touched c.shape rect n
        → Went g.model g.count (λ st. visited d.shape.slots (whole (g.model d.below).shown d.shape) st x) d (Ok tt) e → Front e.tiles x
        → Covers c.shape (g.model c.below).shown.width (g.model c.below).shown.height x cell → part ≡ drop (base (slot_at e.tiles.held 0)) e.tiles.entries → Overlaid part cell rect to after → Sofar m e after
    further n m em d e x cell to part after sofar is went front covers ep over =
        let w = went_more (touched c.shape rect) c d e n x (Ok tt) is sofar.went went in
        let r : Ready h.ops (g.model c.below).shown c.shape e.tiles =
        subst (λ (s : TileShape). Ready h.ops (g.model c.below).shown s e.tiles) w.shape (subst (λ (m : Model K). Ready h.ops m.shown e.shape e.tiles) w.keeps e.ready) in
        subst (λ k. Sofar k e after) (sym em) (record {
          went = w;
          served = served_more h.ops (g.model c.below).shown c.shape rect in-x in-y e.tiles n x cell to after r is front covers (subst (λ l. Overlaid l cell rect to after) ep over) sofar.served;
          rest = λ k le. over.rest k le ∙ sofar.rest k le;
        })
