-- What the parts of a program in the code stand for.
use Rattle.std.specs.Prelude.{ℕ, List, map}
use Rattle.std.specs.Global.{Vec}
use Rattle.rc_lang.specs.declared.program.Buffer.{Buffer as BufferPart}
use Rattle.rc_lang.specs.declared.program.Declarations.{Declarations}
use Rattle.rc_lang.specs.declared.program.Head.{Head}
use Rattle.rc_lang.specs.declared.program.Items.{Items as ItemsPart}
use Rattle.rc_lang.specs.declared.program.More.{More as MorePart}
use Rattle.rc_lang.specs.declared.program.Stock.{Stock as StockPart}
use Rattle.rc_lang.specs.declared.program.Thread.{Thread as ThreadPart}
use Rattle.rc_lang.specs.declared.rows.Rows.{Rows as RowsPart}
use Rattle.rc_lang.specs.Program.{Buffer, Items, More, Rows, Stock, Thread, Program}

abbrev pub view_names : List (Vec ℕ) → List (List ℕ)
view_names names = map (λ n. n.items) names

abbrev pub view_buffer : BufferPart → Buffer
view_buffer b = record { name = b.name.items; bytes = b.bytes; shares = b.shares }

abbrev pub view_more : MorePart → More
view_more m = record { shares = m.shares.items; tokens = m.tokens.items; credits = m.credits }

abbrev pub view_items : ItemsPart → Items
view_items i = record { shares = i.shares.items; tokens = i.tokens.items; credits = i.credits; queue = i.queue; more = view_more i.more }

abbrev pub view_rows : RowsPart → Rows
view_rows r = record { buffers = r.buffers.items; tokens = r.tokens.items; members = r.members.items }

abbrev pub view_stock : StockPart → Stock
view_stock s = record { pool = s.pool; line = s.line; items = view_items s.items }

abbrev pub view_thread : ThreadPart → Thread
view_thread t = record {
  name = t.name.items;
  copy = t.copy;
  line = t.line;
  items = view_items t.items;
  lists = map view_items t.lists.items;
  lines = t.lines.items;
  ends = t.ends.items;
  variables = view_names t.variables.items;
  flag = t.flag;
  rows = view_rows t.rows;
}

abbrev pub view_program : Head → Declarations → List ThreadPart → Program
view_program h d ts = record {
  version = h.version;
  entries = h.entries;
  completion_entries = h.completion_entries;
  left = h.left;
  files = d.files.items;
  buffers = map view_buffer d.buffers.items;
  tokens = d.tokens.items;
  pools = view_names d.pools.items;
  stock = map view_stock d.stock.items;
  threads = map view_thread ts;
}
