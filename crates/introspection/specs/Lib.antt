pub mod MaxDepth
