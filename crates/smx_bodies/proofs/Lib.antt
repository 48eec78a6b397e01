mod Values
mod Grammar
mod Bodily
