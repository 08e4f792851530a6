-- How a line is cut into fields.
mod Cuts
